-- Faults of phrases one behind another, as a reader passes them on.
use Rattle.std.proofs.Common.{◌≡◌, ℕ, List, [], drop, ap, sym, ◌∙◌, subst, Result, Ok, Err, IsErrAnd}
use Rattle.cv_syntax.specs.declared.make.Make.{Make}
use Rattle.cv_parse_notation.specs.declared.sign.Sign.{Sign}
use Rattle.cv_parse_notation.specs.declared.sign.Mark.{Mark}
use Rattle.cv_parse_notation.specs.Form.{◌&◌, ◌▸◌}
use Rattle.cv_parse_notation.specs.Reads.{Read, ◌>>=◌, found, joined, read_sign}
use Rattle.cv_parse_grammar.specs.declared.role.Role.{Role}
use Rattle.cv_parse_grammar.specs.Phrases.{Phrase}
use Rattle.cv_parse_terms.specs.declared.lookahead.ReadError.{ReadError}
use Rattle.cv_parse_terms.specs.declared.trail.NameUse.{NameUse}
use Rattle.cv_parse_terms.specs.declared.trail.Trail.{Trail}
use Rattle.cv_parse_terms.specs.Gives.{Fails, Gives, IsRead, Makes, Stands, read_in}
use Rattle.cv_parse_terms.proofs.Places.{fails_behind, fails_bind}

-- the first phrase, or the second behind it
pub first_fails : {A B : Type 0} (all : List Sign) (e : ReadError) (n : ℕ) (f : Phrase A) (g : Phrase B) (ts : List Sign) → Fails all e (read_in n f ts) → Fails all e (read_in n (f & g) ts)
first_fails all e n f g ts h = fails_bind all e (read_in n f ts) (λ x. read_in n g x.rest >>= joined x) h

pub then_fails : {A B : Type 0} {all : List Sign} {u v : List NameUse} {a : A} {end : ℕ} (e : ReadError) (n : ℕ) (f : Phrase A) (g : Phrase B) (ts : List Sign) → IsRead all u v (read_in n f ts) a end → Fails all e (read_in n g (drop end all)) → Fails all e (read_in n (f & g) ts)
then_fails {all = all} {u = u} {v = v} {a = a} {end = end} e n f g ts d h =
    fails_behind all u v e (read_in n f ts) (λ x. read_in n g x.rest >>= joined x) a end d
    (fails_bind all e (read_in n g (drop end all)) (joined (record { value = a; uses = d.uses; rest = drop end all })) h)

-- a word or symbol, or the phrase behind it
pub sign_missing : {A : Type 0} (all : List Sign) (e : ReadError) (n : ℕ) (m : Mark) (f : Phrase A) (ts : List Sign) → Fails all e (read_sign m ts) → Fails all e (read_in n (m ▸ f) ts)
sign_missing all e n m f ts h = fails_bind all e _ _ (fails_bind all e (read_sign m ts) (λ x. read_in n f x.rest >>= joined x) h)

pub behind_fails : {A : Type 0} (all : List Sign) (at k : ℕ) (e : ReadError) (n : ℕ) (m : Mark) (f : Phrase A) → Stands all m at k → Fails all e (read_in n f (drop k all)) → Fails all e (read_in n (m ▸ f) (drop at all))
behind_fails all at k e n m f s h =
    fails_bind all e _ _
    (subst (λ r. Fails all e (r >>= λ x. read_in n f x.rest >>= joined x)) (sym (s.2 ∙ ap (λ j. found tt [] (drop j all)) (sym s.0)))
    (fails_bind all e _ _ h))

-- the fault that a call passes on
pub passed : {A : Type 0} (all : List Sign) (u v : List NameUse) (r : Result (A × ℕ) ReadError) (e : ReadError) (read : Read Role A) → IsErrAnd r (λ x. x ≡ e) → Fails all e read → Gives all u v r read
passed all u v (Ok x) e read i h = absurd i
passed all u v (Err x) e read i h = subst (λ y. Fails all y read) (sym i) h

pub passed_makes : {A : Type 0} (emit : A → List Make) (all : List Sign) (old new : Trail) (r : Result ℕ ReadError) (e : ReadError) (read : Read Role A) → IsErrAnd r (λ x. x ≡ e) → Fails all e read → Makes emit all old new r read
passed_makes emit all old new (Ok x) e read i h = absurd i
passed_makes emit all old new (Err x) e read i h = subst (λ y. Fails all y read) (sym i) h
