-- What is spelled is made of what the parts of its phrase are made of.
use Rattle.std.proofs.Common.{◌≡◌, ℕ, zero, suc, Bool, true, false, List, [], ◌∷◌, ◌++◌, Option, Some, None, inl, inr, subst}
use Rattle.std.specs.List.{AllByRecursion}
use Rattle.cv_syntax_trees.proofs.lists.Each.{AllByRecursion_left, AllByRecursion_right, AllByRecursion_weaker}
use Rattle.cv_syntax_trees.specs.Tree.{Tree}
use Rattle.cv_parse_notation.specs.declared.sign.Mark.{Mark}
use Rattle.cv_parse_notation.specs.declared.sign.Sign.{Sign}
use Rattle.cv_parse_notation.specs.Form.{Form, sign, script_word, word, number, nought, find_word, unnamed, other, note, both, may, many, either, made, level, deeper, ◌▸◌, ◌◂◌}
use Rattle.cv_parse_notation.specs.Spells.{Each, IsSort, Kind, Perhaps, Relation, Spells, Use, no_sort, starts}
use Rattle.cv_parse_notation.specs.Whole.{SpellsWith}
use Rattle.cv_parse_grammar.specs.yields.Yields.{AllUsed, IfThere, Yields}

module _ {R σ : Type 0} (W : R → ℕ → Type 0) (P : σ → Tree → Type 0) where
  -- what is spelled is such, where its names are
  abbrev pub Tells : {A : Type 0} → Relation R A → (A → Type 0) → Type 0
  Tells {A} S Q = (ts : List Sign) (a : A) (us : List (Use R)) (rest : List Sign) → S ts a us rest → AllUsed W us → Q a

  front_used : (us front back : List (Use R)) → us ≡ front ++ back → AllUsed W us → AllUsed W front
  front_used us front back e w = AllByRecursion_left (λ u. W u.role u.name) front back (subst (AllUsed W) e w)

  back_used : (us front back : List (Use R)) → us ≡ front ++ back → AllUsed W us → AllUsed W back
  back_used us front back e w = AllByRecursion_right (λ u. W u.role u.name) front back (subst (AllUsed W) e w)

  perhaps_tells : {A : Type 0} (S : Relation R A) (Q : A → Type 0) (near : Bool) (k : Kind → Bool) → Tells S Q → Tells (Perhaps S near k) (IfThere Q)
  perhaps_tells S Q near k q ts None us rest d w = tt
  perhaps_tells S Q near k q ts (Some a) us rest d w = q ts a us rest d w

  each_tells : {A : Type 0} (S : Relation R A) (Q : A → Type 0) (near : Bool) (k : Kind → Bool) → Tells S Q → Tells (Each S near k) (AllByRecursion Q)
  each_tells S Q near k q ts [] us rest d w = tt
  each_tells S Q near k q ts (a ∷ l) us rest d w = (q ts a d.front d.mid d.first (front_used us d.front d.back d.uses w), each_tells S Q near k q d.mid l d.back rest d.second (back_used us d.front d.back d.uses w))

  module _ (h : σ → Kind → Bool) where
    module _ (room : Bool) (below : σ → Relation R Tree) (low : (s : σ) → Tells (below s) (P s)) where
      spelled : {A : Type 0} (f : Form R σ A) → Tells (Spells h room below f) (Yields W P f)
      spelled (sign m) ts a us rest d w = tt
      spelled (script_word v) ts a us rest d w = tt
      spelled (word r) ts a us rest d w = let u = subst (AllUsed W) d.uses w in u.0
      spelled number ts a us rest d w = tt
      spelled nought ts a us rest d w = tt
      spelled find_word ts a us rest d w = tt
      spelled (unnamed r) ts a us rest d w = let u = subst (AllUsed W) d.uses w in u.0
      spelled other ts a us rest d w = tt
      spelled (note r) ts a us rest d w = tt
      spelled (both f g) ts a us rest d w = (spelled f ts a.0 d.front d.mid d.first (front_used us d.front d.back d.uses w), spelled g d.mid a.1 d.back rest d.second (back_used us d.front d.back d.uses w))
      spelled (may near f) ts a us rest d w = perhaps_tells (Spells h room below f) (Yields W P f) near (starts h f) (spelled f) ts a us rest d w
      spelled (many near f) ts a us rest d w = each_tells (Spells h room below f) (Yields W P f) near (starts h f) (spelled f) ts a us rest d w
      spelled (either f g) ts a us rest d w = elim d as (λ _. Yields W P (either f g) a) [
        | inl e ↦ inl (spelled f ts a us rest e w)
        | inr e ↦ inr (spelled g ts a us rest e.1 w)
      ]
      spelled (made v f) ts b us rest d w = (d.0, spelled f ts d.0 us rest d.1 w, d.2)
      spelled (level f) ts a us rest d w = spelled f ts a us rest d.1 w
      spelled (deeper s) ts a us rest d w = low s ts a us rest d w

    module _ (rule : σ → Form R σ Tree) (rows : (s : σ) (t : Tree) → Yields W P (rule s) t → P s t) where
      -- what holds of the values of each row, where it holds one level down, holds of all that is spelled
      pub sorts_tell : (n : ℕ) (s : σ) → Tells (IsSort h rule n s) (P s)
      unfolding IsSort
      sorts_tell zero s ts t us rest d w = rows s t (spelled false no_sort (λ s ts t us rest e. absurd e) (rule s) ts t us rest d w)
      sorts_tell (suc n) s ts t us rest d w = rows s t (spelled true (IsSort h rule n) (sorts_tell n) (rule s) ts t us rest d w)

      pub forms_tell : {A : Type 0} (f : Form R σ A) (n : ℕ) → Tells (SpellsWith h rule f n) (Yields W P f)
      forms_tell f n ts a us rest d w = spelled true (IsSort h rule n) (sorts_tell n) f ts a us rest d w

-- the values of a phrase are such
pub record Gives {R σ A : Type 0} (W : R → ℕ → Type 0) (P : σ → Tree → Type 0) (f : Form R σ A) (Q : A → Type 0) : Type 0 where
  pub gives : (a : A) → Yields W P f a → Q a

pub if_there : {A : Type 0} (p q : A → Type 0) → ((a : A) → p a → q a) → (o : Option A) → IfThere p o → IfThere q o
if_there p q i None y = tt
if_there p q i (Some a) y = i a y

module _ {R σ : Type 0} {W : R → ℕ → Type 0} {P : σ → Tree → Type 0} where
  pub anything : {A : Type 0} {f : Form R σ A} → Gives W P f (λ _. Unit {0})
  anything = record { gives = λ a y. tt }

  pub a_word : {r : R} → Gives W P (word r) (W r)
  a_word = record { gives = λ a y. y }

  pub below : {s : σ} → Gives W P (deeper s) (P s)
  below = record { gives = λ a y. y }

  pub follow : {A B : Type 0} {f : Form R σ A} {g : Form R σ B} {p : A → Type 0} {q : B → Type 0} → Gives W P f p → Gives W P g q → Gives W P (both f g) (λ x. p x.0 × q x.1)
  follow i j = record { gives = λ a y. (i.gives a.0 y.0, j.gives a.1 y.1) }

  pub weaker : {A : Type 0} {f : Form R σ A} {p q : A → Type 0} → Gives W P f p → ((a : A) → p a → q a) → Gives W P f q
  weaker i k = record { gives = λ a y. k a (i.gives a y) }

  pub turned : {A B : Type 0} {v : A → B} {f : Form R σ A} {p : A → Type 0} {q : B → Type 0} → Gives W P f p → ((a : A) → p a → q (v a)) → Gives W P (made v f) q
  turned {q = q} i k = record { gives = λ b y. subst q y.2 (k y.0 (i.gives y.0 y.1)) }

  pub perhaps : {A : Type 0} {near : Bool} {f : Form R σ A} {p : A → Type 0} → Gives W P f p → Gives W P (may near f) (IfThere p)
  perhaps {f = f} {p = p} i = record { gives = if_there (Yields W P f) p i.gives }

  pub several : {A : Type 0} {near : Bool} {f : Form R σ A} {p : A → Type 0} → Gives W P f p → Gives W P (many near f) (AllByRecursion p)
  several {f = f} {p = p} i = record { gives = AllByRecursion_weaker (Yields W P f) p i.gives }

  pub one_of : {A : Type 0} {f g : Form R σ A} {p : A → Type 0} → Gives W P f p → Gives W P g p → Gives W P (either f g) p
  one_of {p = p} i j = record { gives = λ a y. elim y as (λ _. p a) [ inl e ↦ i.gives a e | inr e ↦ j.gives a e ] }

  pub leveled : {A : Type 0} {f : Form R σ A} {p : A → Type 0} → Gives W P f p → Gives W P (level f) p
  leveled i = record { gives = i.gives }

  -- a symbol says nothing
  pub behind : {A : Type 0} {m : Mark} {f : Form R σ A} {p : A → Type 0} → Gives W P f p → Gives W P (m ▸ f) p
  behind i = turned (follow anything i) (λ x w. w.1)

  pub before : {A : Type 0} {m : Mark} {f : Form R σ A} {p : A → Type 0} → Gives W P f p → Gives W P (f ◂ m) p
  before i = turned (follow i anything) (λ x w. w.0)
