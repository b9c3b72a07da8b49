-- The fault of a phrase is that of its first part that isn't there.
use Rattle.std.proofs.Common.{ℕ, List, [], drop, ap, sym, ◌∙◌, subst}
use Rattle.cv_parse_notation.specs.declared.sign.Sign.{Sign}
use Rattle.cv_parse_notation.specs.declared.sign.Mark.{Mark}
use Rattle.cv_parse_notation.specs.Form.{◌&◌, ◌▸◌}
use Rattle.cv_parse_notation.specs.Reads.{◌>>=◌, found, joined}
use Rattle.cv_parse_grammar.specs.Phrases.{Phrase}
use Rattle.cv_parse_terms.specs.declared.trail.NameUse.{NameUse}
use Rattle.cv_parse_terms.specs.declared.lookahead.ReadError.{ReadError}
use Rattle.cv_parse_terms.specs.Gives.{Fails, IsRead, Stands, read_in}
use Rattle.cv_parse_terms.proofs.Places.{fails_bind, fails_behind}

-- of two phrases the second
pub fails_second : {A B : Type 0} {u v : List NameUse} {a : A} {k : ℕ} (all : List Sign) (e : ReadError) (n at : ℕ) (f : Phrase A) (g : Phrase B) → IsRead all u v (read_in n f (drop at all)) a k → Fails all e (read_in n g (drop k all)) → Fails all e (read_in n (f & g) (drop at all))
fails_second {u = u} {v = v} {a = a} {k = k} all e n at f g d h = fails_behind all u v e (read_in n f (drop at all)) (λ x. read_in n g x.rest >>= joined x) a k d (fails_bind all e _ _ h)

-- behind a word or symbol
pub fails_behind_sign : {A : Type 0} {k : ℕ} (all : List Sign) (e : ReadError) (n at : ℕ) (m : Mark) (f : Phrase A) → Stands all m at k → Fails all e (read_in n f (drop k all)) → Fails all e (read_in n (m ▸ f) (drop at all))
fails_behind_sign all e n at m f s h =
    fails_bind all e _ _
    (subst (λ r. Fails all e (r >>= λ x. read_in n f x.rest >>= joined x)) (sym (s.2 ∙ ap (λ j. found tt [] (drop j all)) (sym s.0))) (fails_bind all e _ _ h))
