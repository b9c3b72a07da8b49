-- The text of a parameter with its exponent, part by part.
use Rattle.std.proofs.Common.{◌≡◌, ◌≢◌, ℕ, List, [], ◌++◌, cond, codes, append_assoc, append-nil, ap, sym, ◌∙◌}
use Rattle.std.proofs.lemmas.Bool.{eq-eqb, ne_eqb}
use Rattle.std.specs.Fmt.{decimal}
use Rattle.cv_pool.specs.declared.names.names.NameId.{NameId}
use Rattle.cv_print.specs.Terms.{name_text}
use Rattle.cv_bound.specs.Texts.{power_text}

pub framed : (out before text after : List ℕ) → ((out ++ before) ++ text) ++ after ≡ out ++ (before ++ (text ++ after))
framed out before text after = append_assoc (out ++ before) text after ∙ append_assoc out before (text ++ after)

pub powered_alone : (names : List (List ℕ)) (f : NameId × ℕ) (out : List ℕ) → f.1 ≡ 1 → out ++ name_text names f.0.0 ≡ out ++ power_text names f
powered_alone names f out e =
    ap (λ t. out ++ t) (sym (ap (λ b. name_text names f.0.0 ++ cond b [] (codes "^" ++ decimal f.1)) (eq-eqb f.1 1 e) ∙ append-nil (name_text names f.0.0)))

pub powered : (names : List (List ℕ)) (f : NameId × ℕ) (out : List ℕ) → f.1 ≢ 1 → ((out ++ name_text names f.0.0) ++ codes "^") ++ decimal f.1 ≡ out ++ power_text names f
powered names f out e =
    framed out (name_text names f.0.0) (codes "^") (decimal f.1)
    ∙ ap (λ b. out ++ (name_text names f.0.0 ++ cond b [] (codes "^" ++ decimal f.1))) (sym (ne_eqb f.1 1 e))
