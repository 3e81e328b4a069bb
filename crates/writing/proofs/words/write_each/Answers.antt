use Rattle.std.proofs.Common.{◌≡◌, ℕ, suc, ◌+◌, ◌-◌, ◌*◌, ◌≤◌, List, [], ◌∷◌, ◌++◌, length, take, get_or, sym, ap, ◌∙◌, subst, mul-suc, arith, rules}
use Rattle.std.proofs.Math.Nat.{mul-le-mul_left}
use Rattle.std.proofs.lemmas.List.{take_all, take_more}
use Rattle.std.proofs.lemmas.Slice.{take-put_mid}
use Rattle.writing.specs.Words.{WritesEach}
use Rattle.writing.proofs.WordByWord.{each_more}
use Rattle.writing.proofs.words.write_each.Goals as goal

pub word-bytes-requires : goal.word-bytes-requires
word-bytes-requires g c = rw c.index-items-k.is (c.requires.callable c.loop-k.k c.index-items-k.result c.loop-k-test.true)

pub loop-k-preserved : goal.loop-k-preserved
loop-k-preserved g c =
    let R : g.row.T.Denot → List ℕ → Type 0 = λ x bytes. (w : g.row.W.Denot) × (goal.F-post g c.args.word x w × (bytes ≡ g.W.AsSlice.items w)) in
    let n = c.args.size in
    let k = c.loop-k.k in
    let x = c.index-items-k.result in
    let xs = c.args.items.now in
    let part = c.loop-k.part in
    let ys = c.copy_from_slice.new.self in
    let word = c.word-bytes.result in
    let post : goal.F-post g c.args.word (get_or xs k x) word = rw (← c.index-items-k.is) (search rules) in
    let own : ys ≡ g.W.AsSlice.items word = c.copy_from_slice.ensures.after ∙ c.as_slice.ensures in
    let long : length ys ≡ n = ap length own ∙ c.requires.sized k x c.loop-k-test.true word post in
    let next : k + 1 ≡ suc k = omega arith in
    let end : n * (k + 1) ≡ n * k + length ys = ap (λ z. n * z) next ∙ mul-suc n k ∙ ap (λ z. n * k + z) (sym long) in
    let before : k ≤ length xs = omega arith in
    let room : n * k ≤ length part = rw (c.loop-k.auto.part ∙ c.requires.long) (mul-le-mul_left n before) in
    let more : WritesEach R (take k xs ++ get_or xs k x ∷ []) (take (n * k) part ++ ys) =
    each_more R (take k xs) (get_or xs k x) (take (n * k) part) ys c.loop-k.invariant (word, (post, own)) in
    let items : WritesEach R (take (k + 1) xs) (take (n * k) part ++ ys) = subst (λ zs. WritesEach R zs (take (n * k) part ++ ys)) (sym (take_more xs k x c.loop-k-test.true)) more in
    subst (λ bytes. WritesEach R (take (k + 1) xs) bytes) (sym (take-put_mid (n * k) (n * k + n - n * k) part ys (n * (k + 1)) end room)) items

pub returns : goal.returns
returns g c =
    let R : g.row.T.Denot → List ℕ → Type 0 = λ x bytes. (w : g.row.W.Denot) × (goal.F-post g c.args.word x w × (bytes ≡ g.W.AsSlice.items w)) in
    let n = c.args.size in
    let k = c.loop-k.k in
    let xs = c.args.items.now in
    let part = c.loop-k.part in
    let all : length xs ≤ k = omega arith in
    let end : length part ≤ n * k = rw (c.loop-k.auto.part ∙ c.requires.long) (mul-le-mul_left n all) in
    let items : WritesEach R xs (take (n * k) part) = subst (λ zs. WritesEach R zs (take (n * k) part)) (take_all k xs all) c.loop-k.invariant in
    subst (λ bytes. WritesEach R xs bytes) (take_all (n * k) part end) items
