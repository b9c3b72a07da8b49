-- The indices of replications as names that are bound above a term.
use Rattle.std.proofs.Common.{◌≡◌, ℕ, ◌==◌, Bool, true, false, cond, List, [], ◌∷◌, ◌++◌, ◌||◌, Option, Some, None, is_some, refl, sym, ap, ◌∙◌, eqb-true}
use Rattle.std.proofs.lemmas.Bool.{both_ways, or_parts}
use Rattle.cv_syntax_trees.specs.declared.sites.sort.Sort.{Sort}
use Rattle.cv_syntax_trees.specs.declared.sites.sort.Sort.TheVariants.{BelowParameter}
use Rattle.cv_syntax_trees.specs.sites.Sites.{first_of}
use Rattle.cv_syntax_trees.proofs.lists.Options.{some_from_is_some}
use Rattle.cv_scope_rules.specs.Rules.{is_index}
use Rattle.cv_scope_rules.specs.declared.typing.precedence.Precedence.TheVariants.{First}
use Rattle.cv_scope_rules.specs.typing.Parts.{nothing_above}
use Rattle.cv_scope_rules.specs.typing.Signature.{Above}
use Rattle.cv_scope_rules.specs.typing.Wants.{bound}
use Rattle.cv_scene.specs.Terms.{above_under, indices_above}

-- with one name more, of which the first binding counts

pub bound_kept : (above : Above) (i : ℕ) (R : Sort) (x : ℕ) (S : Sort) → above x ≡ Some S → bound First above i R x ≡ Some S
bound_kept above i R x S e = go (i == x) refl
  where
    go : (b : Bool) → (i == x) ≡ b → cond b (first_of (above i) (Some R)) (above x) ≡ Some S
    go true f = ap (λ o. first_of o (Some R)) (ap above (eqb-true i x f) ∙ e)
    go false f = e

pub bound_other : (above : Above) (i : ℕ) (R : Sort) (x : ℕ) → (i == x) ≡ false → bound First above i R x ≡ above x
bound_other above i R x f = ap (λ b. cond b (first_of (above i) (Some R)) (above x)) f

pub bound_new : (above : Above) (i : ℕ) (R : Sort) (x : ℕ) → (i == x) ≡ true → above x ≡ None → bound First above i R x ≡ Some R
bound_new above i R x f e = ap (λ b. cond b (first_of (above i) (Some R)) (above x)) f ∙ ap (λ o. first_of o (Some R)) (ap above (eqb-true i x f) ∙ e)

-- with those of replications

pub above_kept : (rs : List (ℕ × ℕ)) (above : Above) (x : ℕ) (S : Sort) → above x ≡ Some S → indices_above above rs x ≡ Some S
above_kept [] above x S e = e
above_kept (r ∷ rs) above x S e = above_kept rs (bound First above r.0 (BelowParameter r.1)) x S (bound_kept above r.0 (BelowParameter r.1) x S e)

pub above_last : (rs : List (ℕ × ℕ)) (above : Above) (i n : ℕ) → indices_above above (rs ++ (i, n) ∷ []) ≡ bound First (indices_above above rs) i (BelowParameter n)
above_last [] above i n = refl
above_last (r ∷ rs) above i n = above_last rs (bound First above r.0 (BelowParameter r.1)) i n

pub index_none : (rs : List (ℕ × ℕ)) (above : Above) (x : ℕ) → is_index rs x ≡ false → indices_above above rs x ≡ above x
index_none [] above x e = refl
index_none (r ∷ rs) above x e =
    let p = or_parts (r.0 == x) (is_index rs x) e in
    index_none rs (bound First above r.0 (BelowParameter r.1)) x p.1 ∙ bound_other above r.0 (BelowParameter r.1) x p.0

pub index_some : (rs : List (ℕ × ℕ)) (above : Above) (x : ℕ) → is_index rs x ≡ true → is_some (indices_above above rs x) ≡ true
index_some [] above x e = absurd (both_ways false refl e)
index_some (r ∷ rs) above x e = go (r.0 == x) refl (index_some rs (bound First above r.0 (BelowParameter r.1)) x) e
  where
    below : Above
    below = bound First above r.0 (BelowParameter r.1)

    found : (o : Option Sort) → above r.0 ≡ o → (r.0 == x) ≡ true → is_some (below x) ≡ true
    found (Some S) f c = ap is_some (bound_kept above r.0 (BelowParameter r.1) x S (ap above (sym (eqb-true r.0 x c)) ∙ f))
    found None f c = ap is_some (bound_new above r.0 (BelowParameter r.1) x c (ap above (sym (eqb-true r.0 x c)) ∙ f))

    go : (b : Bool) → (r.0 == x) ≡ b → (is_index rs x ≡ true → is_some (indices_above below rs x) ≡ true) → (b || is_index rs x) ≡ true → is_some (indices_above below rs x) ≡ true
    go true c later i = let z = some_from_is_some (below x) (found (above r.0) refl c) in ap is_some (above_kept rs below x z.0 z.1)
    go false c later i = later i

-- a name that is bound there is an index
pub some_index : (rs : List (ℕ × ℕ)) (x : ℕ) (S : Sort) → above_under rs x ≡ Some S → is_index rs x ≡ true
some_index rs x S e = go (is_index rs x) refl
  where
    clash : ◌≡◌ {A = Option Sort} None (Some S) → ⊥
    clash f = cc

    go : (b : Bool) → is_index rs x ≡ b → b ≡ true
    go true f = refl
    go false f = absurd (clash (sym (index_none rs nothing_above x f) ∙ e))
