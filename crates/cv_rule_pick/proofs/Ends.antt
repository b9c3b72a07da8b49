-- The last lines, where there are as many as are wanted.
use Rattle.std.proofs.Common.{◌≡◌, ◌-◌, ◌≤◌, ◌&&◌, not, nat_lt, le-ltb, List, drop, length, map, ap₂, ◌∙◌}
use Rattle.std.proofs.lemmas.List.{drop-map, length-map}
use Rattle.cv_scene.specs.lines.Ends.{is_end, same_statements}
use Rattle.cv_scene.specs.lines.Lines.{Statement}

pub is_end_of : {A B : Type 0} (S : A → Statement) (W : B → Statement) (ts : List A) (us : List B) → length us ≤ length ts → is_end (map S ts) (map W us) ≡ same_statements (map S (drop (length ts - length us) ts)) (map W us)
is_end_of S W ts us l =
    ap₂ (λ m n. not (nat_lt m n) && same_statements (drop (m - n) (map S ts)) (map W us)) (length-map ts S) (length-map us W)
    ∙ ap₂ (λ v xs. not v && same_statements xs (map W us)) (le-ltb (length ts) (length us) l) (drop-map S (length ts - length us) ts)
