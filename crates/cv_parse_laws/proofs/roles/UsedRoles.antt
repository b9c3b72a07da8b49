-- In which roles a phrase uses names: in those of its form.
use Rattle.std.proofs.Common.{◌≡◌, ℕ, zero, suc, Bool, true, false, ◌&&◌, List, [], ◌∷◌, ◌++◌, Some, None, inl, inr, sym, subst}
use Rattle.std.proofs.lemmas.Bool.{and_parts}
use Rattle.cv_syntax_trees.proofs.lists.Each.{AllByRecursion_append}
use Rattle.cv_syntax_trees.specs.Tree.{Tree}
use Rattle.cv_parse_notation.specs.declared.sign.Sign.{Sign}
use Rattle.cv_parse_notation.specs.Form.{Form, sign, script_word, word, number, nought, find_word, unnamed, other, note, both, may, many, either, made, level, deeper}
use Rattle.cv_parse_notation.specs.Spells.{Each, IsSort, Kind, Perhaps, Relation, Spells, Use, no_sort, starts}
use Rattle.cv_parse_grammar.specs.yields.Yields.{AllUsed}

module _ {R σ : Type 0} (p : R → Bool) (q : σ → Bool) where
  -- the form uses names in these roles, and has these sorts one level down
  abbrev pub has_roles : {A : Type 0} → Form R σ A → Bool
  has_roles (word r) = p r
  has_roles (unnamed r) = p r
  has_roles (note r) = p r
  has_roles (both f g) = has_roles f && has_roles g
  has_roles (may near f) = has_roles f
  has_roles (many near f) = has_roles f
  has_roles (either f g) = has_roles f && has_roles g
  has_roles (made v f) = has_roles f
  has_roles (level f) = has_roles f
  has_roles (deeper s) = q s
  has_roles f = true

  abbrev pub IsIn : R → ℕ → Type 0
  IsIn r x = p r ≡ true

  abbrev pub Uses : {A : Type 0} → Relation R A → Type 0
  Uses {A} S = (ts : List Sign) (a : A) (us : List (Use R)) (rest : List Sign) → S ts a us rest → AllUsed IsIn us

  nothing : (us : List (Use R)) → us ≡ [] → AllUsed IsIn us
  nothing us e = subst (AllUsed IsIn) (sym e) tt

  together : (us front back : List (Use R)) → us ≡ front ++ back → AllUsed IsIn front → AllUsed IsIn back → AllUsed IsIn us
  together us front back e v w = subst (AllUsed IsIn) (sym e) (AllByRecursion_append (λ (u : Use R). p u.role ≡ true) front back v w)

  perhaps_uses : {A : Type 0} (S : Relation R A) (near : Bool) (k : Kind → Bool) → Uses S → Uses (Perhaps S near k)
  perhaps_uses S near k i ts None us rest d = nothing us d.0.uses
  perhaps_uses S near k i ts (Some a) us rest d = i ts a us rest d

  each_uses : {A : Type 0} (S : Relation R A) (near : Bool) (k : Kind → Bool) → Uses S → Uses (Each S near k)
  each_uses S near k i ts [] us rest d = nothing us d.0.uses
  each_uses S near k i ts (a ∷ l) us rest d = together us d.front d.back d.uses (i ts a d.front d.mid d.first) (each_uses S near k i d.mid l d.back rest d.second)

  module _ (h : σ → Kind → Bool) where
    module _ (room : Bool) (below : σ → Relation R Tree) (low : (s : σ) → q s ≡ true → Uses (below s)) where
      pub form_uses : {A : Type 0} (f : Form R σ A) → has_roles f ≡ true → Uses (Spells h room below f)
      form_uses (sign m) e ts a us rest d = nothing us d.uses
      form_uses (script_word v) e ts a us rest d = nothing us d.uses
      form_uses (word r) e ts a us rest d = subst (AllUsed IsIn) (sym d.uses) (e, tt)
      form_uses number e ts a us rest d = nothing us d.uses
      form_uses nought e ts a us rest d = nothing us d.uses
      form_uses find_word e ts a us rest d = nothing us d.uses
      form_uses (unnamed r) e ts a us rest d = subst (AllUsed IsIn) (sym d.uses) (e, tt)
      form_uses other e ts a us rest d = nothing us d.2.uses
      form_uses (note r) e ts a us rest d = subst (AllUsed IsIn) (sym d.1.uses) (e, tt)
      form_uses (both f g) e ts a us rest d =
          let r = and_parts (has_roles f) (has_roles g) e in
          together us d.front d.back d.uses (form_uses f r.0 ts a.0 d.front d.mid d.first) (form_uses g r.1 d.mid a.1 d.back rest d.second)
      form_uses (may near f) e ts a us rest d = perhaps_uses (Spells h room below f) near (starts h f) (form_uses f e) ts a us rest d
      form_uses (many near f) e ts a us rest d = each_uses (Spells h room below f) near (starts h f) (form_uses f e) ts a us rest d
      form_uses (either f g) e ts a us rest d =
          let r = and_parts (has_roles f) (has_roles g) e in
          elim d as (λ _. AllUsed IsIn us) [
            | inl k ↦ form_uses f r.0 ts a us rest k
            | inr k ↦ form_uses g r.1 ts a us rest k.1
          ]
      form_uses (made v f) e ts b us rest d = form_uses f e ts d.0 us rest d.1
      form_uses (level f) e ts a us rest d = form_uses f e ts a us rest d.1
      form_uses (deeper s) e ts a us rest d = low s e ts a us rest d

    module _ (rule : σ → Form R σ Tree) (rows : (s : σ) → q s ≡ true → has_roles (rule s) ≡ true) where
      pub sort_uses : (n : ℕ) (s : σ) → q s ≡ true → Uses (IsSort h rule n s)
      unfolding IsSort
      sort_uses zero s e ts t us rest d = form_uses false no_sort (λ s e ts t us rest k. absurd k) (rule s) (rows s e) ts t us rest d
      sort_uses (suc n) s e ts t us rest d = form_uses true (IsSort h rule n) (sort_uses n) (rule s) (rows s e) ts t us rest d
