-- Phrases without uses of names of some roles.
use Rattle.std.proofs.Common.{◌≡◌, ℕ, Bool, true, false, ◌&&◌, List, [], ◌∷◌, Option, Some, None, inl, inr, refl}
use Rattle.std.proofs.lemmas.Bool.{and_parts}
use Rattle.cv_syntax_trees.specs.Tree.{Tree}
use Rattle.cv_parse_notation.specs.Form.{sign, script_word, word, number, nought, find_word, unnamed, other, note, both, may, many, either, made, level, deeper}
use Rattle.cv_parse_grammar.specs.declared.role.Role.{Role}
use Rattle.cv_parse_grammar.specs.Names.{Uses}
use Rattle.cv_parse_grammar.specs.Phrases.{Phrase, Sort}
use Rattle.cv_print_back.proofs.files.Saying.{InTurn, Makes, Optional, Run, Says, Word}

-- the phrase has uses of such roles alone, above such sorts
unfoldable pub is_quiet : (Role → Bool) → (Sort → Bool) → {A : Type 0} → Phrase A → Bool
is_quiet q low (word r) = q r
is_quiet q low (unnamed r) = q r
is_quiet q low (note r) = q r
is_quiet q low (both f g) = is_quiet q low f && is_quiet q low g
is_quiet q low (may near f) = is_quiet q low f
is_quiet q low (many near f) = is_quiet q low f
is_quiet q low (either f g) = is_quiet q low f && is_quiet q low g
is_quiet q low (made v f) = is_quiet q low f
is_quiet q low (level f) = is_quiet q low f
is_quiet q low (deeper s) = low s
is_quiet q low _ = true

-- uses in front of others of which this holds, whatever quiet uses stand between
pub record Keeps (q : Role → Bool) (Q : Uses → Uses → Type 0) : Type 0 where
  pub none : (us vs : Uses) → us ≡ vs → Q us vs
  pub both : (us ws vs : Uses) → Q us ws → Q ws vs → Q us vs
  pub one : (r : Role) (x : ℕ) (us vs : Uses) → q r ≡ true → Word r x us vs → Q us vs

abbrev pub Where : Bool → Type 0 → Type 0
Where true P = P
Where false P = Unit {0}

it_is : (b : Bool) (P : Type 0) → b ≡ true → Where b P → P
it_is true P e p = p
it_is false P e p = absurd (cc)

pub where_it : (b : Bool) (P : Type 0) → (b ≡ true → P) → Where b P
where_it true P f = f refl
where_it false P f = tt

module _ (q : Role → Bool) (low : Sort → Bool) (Q : Uses → Uses → Type 0) (keeps : Keeps q Q) where
  -- what is known of the phrases of a sort
  abbrev pub QuietAt : Sort → Run Tree
  QuietAt s t us vs = Where (low s) (Q us vs)

  quiet_turn : {A : Type 0} (P : Run A) → ((a : A) (us vs : Uses) → P a us vs → Q us vs) → (l : List A) (us vs : Uses) → InTurn P l us vs → Q us vs
  quiet_turn P i [] us vs y = keeps.none us vs y
  quiet_turn P i (a ∷ l) us vs y = keeps.both us y.0 vs (i a us y.0 y.1) (quiet_turn P i l y.0 vs y.2)

  quiet_there : {A : Type 0} (P : Run A) → ((a : A) (us vs : Uses) → P a us vs → Q us vs) → (o : Option A) (us vs : Uses) → Optional P o us vs → Q us vs
  quiet_there P i None us vs y = keeps.none us vs y
  quiet_there P i (Some a) us vs y = i a us vs y

  pub quiet_says : {A : Type 0} (f : Phrase A) → is_quiet q low f ≡ true → (a : A) (us vs : Uses) → Says QuietAt f a us vs → Q us vs
  unfolding is_quiet
  quiet_says (sign m) e a us vs y = keeps.none us vs y
  quiet_says (script_word w) e a us vs y = keeps.none us vs y
  quiet_says (word r) e a us vs y = keeps.one r a us vs e y
  quiet_says number e a us vs y = keeps.none us vs y
  quiet_says nought e a us vs y = keeps.none us vs y
  quiet_says find_word e a us vs y = keeps.none us vs y
  quiet_says (unnamed r) e a us vs y = keeps.one r a us vs e y
  quiet_says other e a us vs y = keeps.none us vs y
  quiet_says (note r) e a us vs y = keeps.one r 0 us vs e y
  quiet_says (both f g) e a us vs y = let p = and_parts (is_quiet q low f) (is_quiet q low g) e in keeps.both us y.0 vs (quiet_says f p.0 a.0 us y.0 y.1) (quiet_says g p.1 a.1 y.0 vs y.2)
  quiet_says (may near f) e a us vs y = quiet_there (Says QuietAt f) (quiet_says f e) a us vs y
  quiet_says (many near f) e a us vs y = quiet_turn (Says QuietAt f) (quiet_says f e) a us vs y
  quiet_says (either f g) e a us vs y = let p = and_parts (is_quiet q low f) (is_quiet q low g) e in elim y as (λ _. Q us vs) [
    | inl w ↦ quiet_says f p.0 a us vs w
    | inr w ↦ quiet_says g p.1 a us vs w
  ]
  quiet_says (made v f) e a us vs y = quiet_says f e y.0 us vs y.1
  quiet_says (level f) e a us vs y = quiet_says f e a us vs y
  quiet_says (deeper s) e a us vs y = it_is (low s) (Q us vs) e y

  pub quietly : {A : Type 0} {f : Phrase A} → is_quiet q low f ≡ true → Makes QuietAt f (λ _. Q)
  quietly {f = f} e = record { gives = quiet_says f e }
