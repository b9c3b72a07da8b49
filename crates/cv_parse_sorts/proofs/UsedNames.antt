-- What is spelled uses names of its tokens alone: where those are below a bound, so are the names that are used.
use Rattle.std.proofs.Common.{◌≡◌, ℕ, zero, suc, ◌<◌, Bool, true, false, List, [], ◌∷◌, ◌++◌, Some, None, inl, inr, sym, subst}
use Rattle.cv_syntax_trees.proofs.lists.Each.{AllByRecursion_append}
use Rattle.cv_syntax_trees.specs.Tree.{Tree}
use Rattle.cv_parse_notation.specs.declared.sign.Sign.{Sign}
use Rattle.cv_parse_notation.specs.Form.{Form, sign, script_word, word, number, nought, find_word, unnamed, other, note, both, may, many, either, made, level, deeper}
use Rattle.cv_parse_notation.specs.Spells.{Each, IsSort, Kind, Perhaps, Relation, Spells, Use, no_sort, starts}
use Rattle.cv_parse_notation.specs.Whole.{SpellsWith}
use Rattle.cv_parse_grammar.specs.yields.Yields.{AllUsed}
use Rattle.cv_parse_sorts.proofs.SmallNames.{AreBelow}

-- a note about names uses the number 0, so that is below the bound too
module _ {R : Type 0} (bound : ℕ) (some : 0 < bound) where
  abbrev pub IsBelow : R → ℕ → Type 0
  IsBelow r x = x < bound

  -- so are the names among the tokens behind
  abbrev Keeps : {A : Type 0} → Relation R A → Type 0
  Keeps {A} S = (ts : List Sign) (a : A) (us : List (Use R)) (rest : List Sign) → S ts a us rest → AreBelow bound ts → AllUsed IsBelow us × AreBelow bound rest

  together : (us front back : List (Use R)) → us ≡ front ++ back → AllUsed IsBelow front → AllUsed IsBelow back → AllUsed IsBelow us
  together us front back e v w = subst (AllUsed IsBelow) (sym e) (AllByRecursion_append (λ (u : Use R). IsBelow u.role u.name) front back v w)

  perhaps_keeps : {A : Type 0} (S : Relation R A) (near : Bool) (k : Kind → Bool) → Keeps S → Keeps (Perhaps S near k)
  perhaps_keeps S near k q ts None us rest d w = (subst (AllUsed IsBelow) (sym d.0.uses) tt, subst (AreBelow bound) d.0.tokens w)
  perhaps_keeps S near k q ts (Some a) us rest d w = q ts a us rest d w

  each_keeps : {A : Type 0} (S : Relation R A) (near : Bool) (k : Kind → Bool) → Keeps S → Keeps (Each S near k)
  each_keeps S near k q ts [] us rest d w = (subst (AllUsed IsBelow) (sym d.0.uses) tt, subst (AreBelow bound) d.0.tokens w)
  each_keeps S near k q ts (a ∷ l) us rest d w =
      let x = q ts a d.front d.mid d.first w in
      let y = each_keeps S near k q d.mid l d.back rest d.second x.1 in
      (together us d.front d.back d.uses x.0 y.0, y.1)

  module _ {σ : Type 0} (h : σ → Kind → Bool) where
    module _ (room : Bool) (below : σ → Relation R Tree) (low : (s : σ) → Keeps (below s)) where
      spelled : {A : Type 0} (f : Form R σ A) → Keeps (Spells h room below f)
      spelled (sign m) ts a us rest d w = (subst (AllUsed IsBelow) (sym d.uses) tt, (subst (AreBelow bound) d.tokens w).1)
      spelled (script_word v) ts a us rest d w = (subst (AllUsed IsBelow) (sym d.uses) tt, (subst (AreBelow bound) d.tokens w).1)
      spelled (word r) ts a us rest d w = let t = subst (AreBelow bound) d.tokens w in (subst (AllUsed IsBelow) (sym d.uses) (t.0, tt), t.1)
      spelled number ts a us rest d w = (subst (AllUsed IsBelow) (sym d.uses) tt, (subst (AreBelow bound) d.tokens w).1)
      spelled nought ts a us rest d w = (subst (AllUsed IsBelow) (sym d.uses) tt, (subst (AreBelow bound) d.tokens w).1)
      spelled find_word ts a us rest d w = (subst (AllUsed IsBelow) (sym d.uses) tt, (subst (AreBelow bound) d.tokens w).1)
      spelled (unnamed r) ts a us rest d w = let t = subst (AreBelow bound) d.tokens w in (subst (AllUsed IsBelow) (sym d.uses) (t.0, tt), t.1)
      spelled other ts a us rest d w = (subst (AllUsed IsBelow) (sym d.2.uses) tt, (subst (AreBelow bound) d.2.tokens w).1)
      spelled (note r) ts a us rest d w = (subst (AllUsed IsBelow) (sym d.1.uses) (some, tt), subst (AreBelow bound) d.1.tokens w)
      spelled (both f g) ts a us rest d w =
          let x = spelled f ts a.0 d.front d.mid d.first w in
          let y = spelled g d.mid a.1 d.back rest d.second x.1 in
          (together us d.front d.back d.uses x.0 y.0, y.1)
      spelled (may near f) ts a us rest d w = perhaps_keeps (Spells h room below f) near (starts h f) (spelled f) ts a us rest d w
      spelled (many near f) ts a us rest d w = each_keeps (Spells h room below f) near (starts h f) (spelled f) ts a us rest d w
      spelled (either f g) ts a us rest d w = elim d as (λ _. AllUsed IsBelow us × AreBelow bound rest) [
        | inl e ↦ spelled f ts a us rest e w
        | inr e ↦ spelled g ts a us rest e.1 w
      ]
      spelled (made v f) ts b us rest d w = spelled f ts d.0 us rest d.1 w
      spelled (level f) ts a us rest d w = spelled f ts a us rest d.1 w
      spelled (deeper s) ts a us rest d w = low s ts a us rest d w

    module _ (rule : σ → Form R σ Tree) where
      sorts_keep : (n : ℕ) (s : σ) → Keeps (IsSort h rule n s)
      unfolding IsSort
      sorts_keep zero s ts t us rest d w = spelled false no_sort (λ s ts t us rest e. absurd e) (rule s) ts t us rest d w
      sorts_keep (suc n) s ts t us rest d w = spelled true (IsSort h rule n) (sorts_keep n) (rule s) ts t us rest d w

      pub forms_keep : {A : Type 0} (f : Form R σ A) (n : ℕ) → Keeps (SpellsWith h rule f n)
      forms_keep f n ts a us rest d w = spelled true (IsSort h rule n) (sorts_keep n) f ts a us rest d w
