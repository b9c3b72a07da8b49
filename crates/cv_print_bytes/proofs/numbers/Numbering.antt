-- What is spelled by tokens with small numbers is made of small numbers.
use Rattle.std.proofs.Common.{◌≡◌, ℕ, zero, suc, ◌^◌, Bool, true, false, nat_lt, List, [], ◌∷◌, Option, Some, None, ◌⊎◌, inl, inr, subst}
use Rattle.std.specs.List.{AllByRecursion}
use Rattle.cv_syntax_trees.proofs.lists.Each.{AllByRecursion_weaker}
use Rattle.cv_syntax_trees.specs.Tree.{Tree}
use Rattle.cv_parse_notation.specs.declared.sign.Mark.{Mark}
use Rattle.cv_parse_notation.specs.declared.sign.Sign.{Sign}
use Rattle.cv_parse_notation.specs.declared.sign.Sign.TheVariants as token
use Rattle.cv_parse_notation.specs.Form.{sign, script_word, word, number, nought, find_word, unnamed, other, note, both, may, many, either, made, level, deeper, ◌▸◌, ◌◂◌}
use Rattle.cv_parse_notation.specs.Spells.{Each, IsSort, Kind, Perhaps, Relation, Spells, Use, no_sort, starts}
use Rattle.cv_parse_notation.specs.Whole.{SpellsWith}
use Rattle.cv_parse_grammar.specs.declared.role.Role.{Role}
use Rattle.cv_parse_grammar.specs.Phrases.{Phrase, Sort}
use Rattle.cv_parse_grammar.specs.Rules.{heads}
use Rattle.cv_parse_grammar.specs.yields.Yields.{IfThere}
use Rattle.cv_parse_grammar.proofs.yields.Yielding.{if_there}

-- a label fits 64 bits
abbrev pub fits_label : ℕ → Bool
fits_label l = nat_lt l (2 ^ 64)

module _ (count : ℕ) where
  -- a name is below the count, and a number fits
  abbrev pub IsSmall : Sign → Type 0
  IsSmall (token.Word x w) = nat_lt x count ≡ true
  IsSmall (token.Unnamed x) = nat_lt x count ≡ true
  IsSmall (token.Number v) = fits_label v ≡ true
  IsSmall (token.Find k) = fits_label k ≡ true
  IsSmall s = Unit {0}

  abbrev pub AreSmall : List Sign → Type 0
  AreSmall signs = AllByRecursion IsSmall signs

  -- the names and numbers of a phrase's value are small, where P is what is known of the sorts one level down
  abbrev pub Holds : {A : Type 0} → (Sort → Tree → Type 0) → Phrase A → A → Type 0
  Holds P (word r) a = nat_lt a count ≡ true
  Holds P (unnamed r) a = nat_lt a count ≡ true
  Holds P number a = fits_label a ≡ true
  Holds P find_word a = fits_label a ≡ true
  Holds P (both f g) a = Holds P f a.0 × Holds P g a.1
  Holds P (may near f) a = IfThere (Holds P f) a
  Holds P (many near f) a = AllByRecursion (Holds P f) a
  Holds P (either f g) a = Holds P f a ⊎ Holds P g a
  Holds P (made {A = A} v f) b = (a : A) × Holds P f a × (v a ≡ b)
  Holds P (level f) a = Holds P f a
  Holds P (deeper s) a = P s a
  Holds P _ a = Unit {0}

  module _ (P : Sort → Tree → Type 0) where
    abbrev Tells : {A : Type 0} → Relation Role A → (A → Type 0) → Type 0
    Tells {A} S Q = (ts : List Sign) (a : A) (us : List (Use Role)) (rest : List Sign) → S ts a us rest → AreSmall ts → Q a × AreSmall rest

    perhaps_tells : {A : Type 0} (S : Relation Role A) (Q : A → Type 0) (near : Bool) (k : Kind → Bool) → Tells S Q → Tells (Perhaps S near k) (IfThere Q)
    perhaps_tells S Q near k q ts None us rest d w = (tt, subst AreSmall d.0.tokens w)
    perhaps_tells S Q near k q ts (Some a) us rest d w = q ts a us rest d w

    each_tells : {A : Type 0} (S : Relation Role A) (Q : A → Type 0) (near : Bool) (k : Kind → Bool) → Tells S Q → Tells (Each S near k) (AllByRecursion Q)
    each_tells S Q near k q ts [] us rest d w = (tt, subst AreSmall d.0.tokens w)
    each_tells S Q near k q ts (a ∷ l) us rest d w =
        let x = q ts a d.front d.mid d.first w in
        let y = each_tells S Q near k q d.mid l d.back rest d.second x.1 in
        ((x.0, y.0), y.1)

    module _ (room : Bool) (below : Sort → Relation Role Tree) (low : (s : Sort) → Tells (below s) (P s)) where
      spelled : {A : Type 0} (f : Phrase A) → Tells (Spells heads room below f) (Holds P f)
      spelled (sign m) ts a us rest d w = (tt, (subst AreSmall d.tokens w).1)
      spelled (script_word v) ts a us rest d w = (tt, (subst AreSmall d.tokens w).1)
      spelled (word r) ts a us rest d w = subst AreSmall d.tokens w
      spelled number ts a us rest d w = subst AreSmall d.tokens w
      spelled nought ts a us rest d w = (tt, (subst AreSmall d.tokens w).1)
      spelled find_word ts a us rest d w = subst AreSmall d.tokens w
      spelled (unnamed r) ts a us rest d w = subst AreSmall d.tokens w
      spelled other ts a us rest d w = (tt, (subst AreSmall d.2.tokens w).1)
      spelled (note r) ts a us rest d w = (tt, subst AreSmall d.1.tokens w)
      spelled (both f g) ts a us rest d w =
          let x = spelled f ts a.0 d.front d.mid d.first w in
          let y = spelled g d.mid a.1 d.back rest d.second x.1 in
          ((x.0, y.0), y.1)
      spelled (may near f) ts a us rest d w = perhaps_tells (Spells heads room below f) (Holds P f) near (starts heads f) (spelled f) ts a us rest d w
      spelled (many near f) ts a us rest d w = each_tells (Spells heads room below f) (Holds P f) near (starts heads f) (spelled f) ts a us rest d w
      spelled (either f g) ts a us rest d w = elim d as (λ _. Holds P (either f g) a × AreSmall rest) [
        | inl e ↦ let x = spelled f ts a us rest e w in (inl x.0, x.1)
        | inr e ↦ let x = spelled g ts a us rest e.1 w in (inr x.0, x.1)
      ]
      spelled (made v f) ts b us rest d w = let x = spelled f ts d.0 us rest d.1 w in ((d.0, x.0, d.2), x.1)
      spelled (level f) ts a us rest d w = spelled f ts a us rest d.1 w
      spelled (deeper s) ts a us rest d w = low s ts a us rest d w

    module _ (rule : Sort → Phrase Tree) (rows : (s : Sort) (t : Tree) → Holds P (rule s) t → P s t) where
      sorts_tell : (n : ℕ) (s : Sort) → Tells (IsSort heads rule n s) (P s)
      unfolding IsSort
      sorts_tell zero s ts t us rest d w = let x = spelled false no_sort (λ s ts t us rest e. absurd e) (rule s) ts t us rest d w in (rows s t x.0, x.1)
      sorts_tell (suc n) s ts t us rest d w = let x = spelled true (IsSort heads rule n) (sorts_tell n) (rule s) ts t us rest d w in (rows s t x.0, x.1)

      pub forms_tell : {A : Type 0} (f : Phrase A) (n : ℕ) → Tells (SpellsWith heads rule f n) (Holds P f)
      forms_tell f n ts a us rest d w = spelled true (IsSort heads rule n) (sorts_tell n) f ts a us rest d w

-- the values of a phrase are such
pub record Gives {A : Type 0} (count : ℕ) (P : Sort → Tree → Type 0) (f : Phrase A) (Q : A → Type 0) : Type 0 where
  pub gives : (a : A) → Holds count P f a → Q a

module _ {count : ℕ} {P : Sort → Tree → Type 0} where
  pub anything : {A : Type 0} {f : Phrase A} → Gives count P f (λ _. Unit {0})
  anything = record { gives = λ a y. tt }

  pub a_word : {r : Role} → Gives count P (word r) (λ x. nat_lt x count ≡ true)
  a_word = record { gives = λ a y. y }

  pub a_number : Gives count P number (λ x. fits_label x ≡ true)
  a_number = record { gives = λ a y. y }

  pub a_find : Gives count P find_word (λ x. fits_label x ≡ true)
  a_find = record { gives = λ a y. y }

  pub below : {s : Sort} → Gives count P (deeper s) (P s)
  below = record { gives = λ a y. y }

  pub follow : {A B : Type 0} {f : Phrase A} {g : Phrase B} {p : A → Type 0} {q : B → Type 0} → Gives count P f p → Gives count P g q → Gives count P (both f g) (λ x. p x.0 × q x.1)
  follow i j = record { gives = λ a y. (i.gives a.0 y.0, j.gives a.1 y.1) }

  pub weaker : {A : Type 0} {f : Phrase A} {p q : A → Type 0} → Gives count P f p → ((a : A) → p a → q a) → Gives count P f q
  weaker i k = record { gives = λ a y. k a (i.gives a y) }

  pub turned : {A B : Type 0} {v : A → B} {f : Phrase A} {p : A → Type 0} {q : B → Type 0} → Gives count P f p → ((a : A) → p a → q (v a)) → Gives count P (made v f) q
  turned {q = q} i k = record { gives = λ b y. subst q y.2 (k y.0 (i.gives y.0 y.1)) }

  pub perhaps : {A : Type 0} {near : Bool} {f : Phrase A} {p : A → Type 0} → Gives count P f p → Gives count P (may near f) (IfThere p)
  perhaps {f = f} {p = p} i = record { gives = if_there (Holds count P f) p i.gives }

  pub several : {A : Type 0} {near : Bool} {f : Phrase A} {p : A → Type 0} → Gives count P f p → Gives count P (many near f) (AllByRecursion p)
  several {f = f} {p = p} i = record { gives = AllByRecursion_weaker (Holds count P f) p i.gives }

  pub one_of : {A : Type 0} {f g : Phrase A} {p : A → Type 0} → Gives count P f p → Gives count P g p → Gives count P (either f g) p
  one_of {p = p} i j = record { gives = λ a y. elim y as (λ _. p a) [ inl e ↦ i.gives a e | inr e ↦ j.gives a e ] }

  pub leveled : {A : Type 0} {f : Phrase A} {p : A → Type 0} → Gives count P f p → Gives count P (level f) p
  leveled i = record { gives = i.gives }

  pub behind : {A : Type 0} {m : Mark} {f : Phrase A} {p : A → Type 0} → Gives count P f p → Gives count P (m ▸ f) p
  behind i = turned (follow anything i) (λ x w. w.1)

  pub before : {A : Type 0} {m : Mark} {f : Phrase A} {p : A → Type 0} → Gives count P f p → Gives count P (f ◂ m) p
  before i = turned (follow i anything) (λ x w. w.0)
