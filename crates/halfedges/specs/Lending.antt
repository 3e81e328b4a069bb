-- A row that is lent to be changed. Assumes nothing.
use Rattle.std.specs.Prelude.{◌-◌, List, ℤ, slice_set}
use Rattle.std.specs.Borrow.{Lends, MutBor, Fml, Array}
use Rattle.halfedges.specs.declared.halfedge.Halfedge.{Halfedge}
use Rattle.halfedges.specs.contracts.halfedge.Halfedge.{the_row}
use Rattle.halfedges.specs.View.{seen}

-- the memory ends with the home row of h as it is left behind r
abbrev pub LendsRow : MutBor (List Halfedge) → ℤ → MutBor Halfedge → Fml
LendsRow rows h r = Lends (Array the_row 0) the_row rows r (slice_set rows.now ((seen rows.now).entry h - 1))
