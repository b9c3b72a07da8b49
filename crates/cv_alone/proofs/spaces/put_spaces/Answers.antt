use Rattle.std.proofs.Common.{◌≡◌, ℕ, ◌+◌, ◌-◌, List, ◌++◌, length, take, drop, replicate, ap, ◌∙◌, arith}
use Rattle.std.proofs.lemmas.List.{drop-drop, length-drop, length-take-le}
use Rattle.cv_alone.proofs.Spacing.{spaced_range}
use Rattle.cv_alone.proofs.spaces.put_spaces.Goals as goal

pub returns : goal.returns
returns c =
    let from = c.args.from in
    let count = c.args.count in
    let bytes : List ℕ = c.args.bytes.now in
    let many : from + count - from ≡ count = omega arith in
    let long : length (take (from + count - from) (drop from bytes)) ≡ count = length-take-le (from + count - from) (drop from bytes) (omega (arith, length-drop from bytes)) ∙ many in
    let spaces : c.fill.new.self ≡ replicate count 32 = c.fill.ensures.after (λ y e. e) ∙ ap (λ n. replicate n 32) long in
    (λ i. take from bytes ++ (spaces i ++ drop (many i) (drop from bytes)))
    ∙ ap (λ l. take from bytes ++ (replicate count 32 ++ l)) (drop-drop count from bytes)
    ∙ spaced_range from count bytes c.requires
