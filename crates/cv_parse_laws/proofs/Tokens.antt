-- What is spelled is made of what the parts of its phrase are made of, where its names are among named tokens.
use Rattle.std.proofs.Common.{◌≡◌, ℕ, zero, suc, Bool, true, false, List, [], ◌∷◌, Some, None, inl, inr, subst}
use Rattle.std.specs.List.{AllByRecursion}
use Rattle.cv_syntax_trees.specs.Tree.{Tree}
use Rattle.cv_parse_notation.specs.declared.sign.Sign.{Sign}
use Rattle.cv_parse_notation.specs.Form.{Form, sign, script_word, word, number, nought, find_word, unnamed, other, note, both, may, many, either, made, level, deeper}
use Rattle.cv_parse_notation.specs.Spells.{Each, IsSort, Kind, Perhaps, Relation, Spells, Use, no_sort, starts}
use Rattle.cv_parse_notation.specs.Whole.{SpellsWith}
use Rattle.cv_parse_grammar.specs.yields.Yields.{IfThere, Yields}
use Rattle.cv_print_bytes.specs.terminals.Written.{is_name}
use Rattle.cv_parse_laws.specs.Words.{AreNamed}

module _ {R σ : Type 0} (P : σ → Tree → Type 0) where
  abbrev Names : R → ℕ → Type 0
  Names r x = is_name x ≡ true

  -- what is spelled by named tokens is such, and the tokens behind are named too
  abbrev Tells : {A : Type 0} → Relation R A → (A → Type 0) → Type 0
  Tells {A} S Q = (ts : List Sign) (a : A) (us : List (Use R)) (rest : List Sign) → S ts a us rest → AreNamed ts → Q a × AreNamed rest

  perhaps_tells : {A : Type 0} (S : Relation R A) (Q : A → Type 0) (near : Bool) (k : Kind → Bool) → Tells S Q → Tells (Perhaps S near k) (IfThere Q)
  perhaps_tells S Q near k q ts None us rest d w = (tt, subst AreNamed d.0.tokens w)
  perhaps_tells S Q near k q ts (Some a) us rest d w = q ts a us rest d w

  each_tells : {A : Type 0} (S : Relation R A) (Q : A → Type 0) (near : Bool) (k : Kind → Bool) → Tells S Q → Tells (Each S near k) (AllByRecursion Q)
  each_tells S Q near k q ts [] us rest d w = (tt, subst AreNamed d.0.tokens w)
  each_tells S Q near k q ts (a ∷ l) us rest d w =
      let x = q ts a d.front d.mid d.first w in
      let y = each_tells S Q near k q d.mid l d.back rest d.second x.1 in
      ((x.0, y.0), y.1)

  module _ (h : σ → Kind → Bool) where
    module _ (room : Bool) (below : σ → Relation R Tree) (low : (s : σ) → Tells (below s) (P s)) where
      spelled : {A : Type 0} (f : Form R σ A) → Tells (Spells h room below f) (Yields Names P f)
      spelled (sign m) ts a us rest d w = (tt, (subst AreNamed d.tokens w).1)
      spelled (script_word v) ts a us rest d w = (tt, (subst AreNamed d.tokens w).1)
      spelled (word r) ts a us rest d w = subst AreNamed d.tokens w
      spelled number ts a us rest d w = (tt, (subst AreNamed d.tokens w).1)
      spelled nought ts a us rest d w = (tt, (subst AreNamed d.tokens w).1)
      spelled find_word ts a us rest d w = (tt, (subst AreNamed d.tokens w).1)
      spelled (unnamed r) ts a us rest d w = subst AreNamed d.tokens w
      spelled other ts a us rest d w = (tt, (subst AreNamed d.2.tokens w).1)
      spelled (note r) ts a us rest d w = (tt, subst AreNamed d.1.tokens w)
      spelled (both f g) ts a us rest d w =
          let x = spelled f ts a.0 d.front d.mid d.first w in
          let y = spelled g d.mid a.1 d.back rest d.second x.1 in
          ((x.0, y.0), y.1)
      spelled (may near f) ts a us rest d w = perhaps_tells (Spells h room below f) (Yields Names P f) near (starts h f) (spelled f) ts a us rest d w
      spelled (many near f) ts a us rest d w = each_tells (Spells h room below f) (Yields Names P f) near (starts h f) (spelled f) ts a us rest d w
      spelled (either f g) ts a us rest d w = elim d as (λ _. Yields Names P (either f g) a × AreNamed rest) [
        | inl e ↦ let x = spelled f ts a us rest e w in (inl x.0, x.1)
        | inr e ↦ let x = spelled g ts a us rest e.1 w in (inr x.0, x.1)
      ]
      spelled (made v f) ts b us rest d w = let x = spelled f ts d.0 us rest d.1 w in ((d.0, x.0, d.2), x.1)
      spelled (level f) ts a us rest d w = spelled f ts a us rest d.1 w
      spelled (deeper s) ts a us rest d w = low s ts a us rest d w

    module _ (rule : σ → Form R σ Tree) (rows : (s : σ) (t : Tree) → Yields Names P (rule s) t → P s t) where
      pub sorts_tell : (n : ℕ) (s : σ) → Tells (IsSort h rule n s) (P s)
      unfolding IsSort
      sorts_tell zero s ts t us rest d w = let x = spelled false no_sort (λ s ts t us rest e. absurd e) (rule s) ts t us rest d w in (rows s t x.0, x.1)
      sorts_tell (suc n) s ts t us rest d w = let x = spelled true (IsSort h rule n) (sorts_tell n) (rule s) ts t us rest d w in (rows s t x.0, x.1)

      pub forms_tell : {A : Type 0} (f : Form R σ A) (n : ℕ) → Tells (SpellsWith h rule f n) (Yields Names P f)
      forms_tell f n ts a us rest d w = spelled true (IsSort h rule n) (sorts_tell n) f ts a us rest d w
