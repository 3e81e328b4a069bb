-- What a strip that is lent out of a file tells.
-- Assumes nothing.
use Rattle.file.specs.declared.view.Strip.{Strip as View}
use Rattle.file.specs.Strips.{Strip, strip_of}

-- the strip, by its arrays
abbrev pub told : View → Strip
told v = strip_of v.bytes.now v.slots v.vertices
