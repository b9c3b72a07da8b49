-- A table of drawn names, filled one by one. This profile's own.
use Rattle.std.specs.Prelude.{ℕ, List, ◌∷◌, if◌then◌else◌}
use Rattle.cv_meaning.specs.contexts.Roles.{Role, TheKeyName, Variable, Index}
use Rattle.cv_meaning.specs.contexts.Inlined.{Drawn}
use Rattle.cv_inline.specs.Draws.{same_find, same_role}
use Rattle.cv_inline_sites.specs.declared.listing.draws.Draw.{Draw}
use Rattle.cv_inline_sites.specs.listing.Listed.{role_in}

abbrev pub nothing : Drawn
nothing = record { key = 0; variable = λ s v. 0; label = λ s q. 0; index = λ s q o b k. 0 }

abbrev pub with_name : Role → ℕ → Drawn → Drawn
with_name r x d =
    record {
      key = if same_role r TheKeyName then x else d.key;
      variable = λ s v. if same_role r (Variable s v) then x else d.variable s v;
      label = d.label;
      index = λ s q o b k. if same_role r (Index s q o b k) then x else d.index s q o b k;
    }

abbrev pub with_label : ℕ × ℕ → ℕ → Drawn → Drawn
with_label f l d = record { key = d.key; variable = d.variable; label = λ s q. if same_find f (s, q) then l else d.label s q; index = d.index }

-- where a thing stands twice, the first stays
abbrev pub with_names : List Draw → List ℕ → Drawn → Drawn
with_names (r ∷ rs) (x ∷ xs) d = with_name (role_in r.role) x (with_names rs xs d)
with_names _ _ d = d

abbrev pub with_labels : List (ℕ × ℕ) → List ℕ → Drawn → Drawn
with_labels (f ∷ fs) (l ∷ ls) d = with_label f l (with_labels fs ls d)
with_labels _ _ d = d
