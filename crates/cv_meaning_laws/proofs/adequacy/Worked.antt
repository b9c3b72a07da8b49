-- The worked game is typed.
use Rattle.std.proofs.Common.{◌≡◌, ℕ, Bool, true, false, cond, ◌==◌, [], ◌∷◌, Some, None, refl, sym, ap, subst, ◌∙◌, inl, inr, arith}
use Rattle.cv_syntax_trees.specs.Tree.{Empty}
use Rattle.cv_meaning.specs.Side.{no_side}
use Rattle.cv_meaning_laws.specs.Worked.{colliding_game, finder, nonce_at, own, interpretation_of_file}
use Rattle.cv_meaning_laws.specs.adequacy.Typed.{Sort, OfType, BelowParameter, boolean, Variable, Scope, HasSort, HaveSorts, IsTyped, IsModel, IsDeclared, HasTypedRestrictions, LeavesRestrictions}
use Rattle.cv_meaning_laws.specs.adequacy.WorkedTyping.{nonces, found_indices, worked_variables, worked_context}
use Rattle.cv_meaning_laws.proofs.adequacy.Lists.{contains_has, has_contains}

scope : Scope
scope = (7, 2) ∷ []

first_index : HasSort worked_context scope (own 9) (BelowParameter 2)
unfolding HasSort HaveSorts scope
first_index = (found_indices, refl, refl, (refl, tt))

second_index : HasSort worked_context scope (own 10) (BelowParameter 2)
unfolding HasSort HaveSorts scope
second_index = (found_indices, refl, refl, (refl, tt))

nonce_typed : (u : ℕ) → HasSort worked_context scope (own u) (BelowParameter 2) → HasSort worked_context scope (nonce_at u) (OfType 5)
unfolding HasSort HaveSorts
nonce_typed u h = (nonces, refl, refl, (h, tt))

pub game_typed : IsTyped worked_context [] colliding_game
unfolding IsTyped HasSort HaveSorts scope
game_typed = (
  (tt, (refl, ((OfType 5 ∷ [], ((nonces, refl, refl, (refl, tt)), tt)), tt))),
  (tt, (tt, (((refl, (refl, tt)), (OfType 5 ∷ OfType 5 ∷ [], (nonce_typed 9 first_index, (nonce_typed 10 second_index, tt))), (refl, (refl, OfType 5, nonce_typed 9 first_index, nonce_typed 10 second_index), (refl, (refl, BelowParameter 2, first_index, second_index))), ((tt, (tt, tt)), (tt, (([], tt), (([], tt), tt))))), tt), tt)),
)

nonce_sort : (V : Variable) → Some nonces ≡ Some V → V.sort ≡ OfType 5
nonce_sort V e = let same : nonces ≡ V = cc in ap (λ (Z : Variable). Z.sort) (sym same)

pub restrictions_typed : HasTypedRestrictions worked_context colliding_game
unfolding HasTypedRestrictions
restrictions_typed = assumption (tt, nonce_sort)

sorts_declared : (x : ℕ) (V : Variable) → worked_variables x ≡ Some V → IsDeclared worked_context.declarations V.sort
sorts_declared x V e = go (x == 4) (x == 9) (x == 10) e
  where
    nonce : IsDeclared worked_context.declarations (OfType 5)
    nonce = inr (false, false, Empty, None, has_contains worked_context.declarations _ (inr (inl refl)))

    index : IsDeclared worked_context.declarations (BelowParameter 2)
    index = (Empty, None, has_contains worked_context.declarations _ (inl refl))

    is : (W : Variable) → Some W ≡ Some V → IsDeclared worked_context.declarations W.sort → IsDeclared worked_context.declarations V.sort
    is W e h = let same : W ≡ V = cc in subst (λ (Z : Variable). IsDeclared worked_context.declarations Z.sort) same h

    go : (a b d : Bool) → cond a (Some nonces) (cond b (Some found_indices) (cond d (Some found_indices) None)) ≡ Some V → IsDeclared worked_context.declarations V.sort
    go true b d e = is nonces e nonce
    go false true d e = is found_indices e index
    go false false true e = is found_indices e index
    go false false false e = cc

pub model : IsModel worked_context interpretation_of_file
model = record { satisfies = record { choices = omega arith; bool = refl; each = (omega arith, (omega arith, tt)) }; variables = sorts_declared }

pub leaves : LeavesRestrictions no_side
leaves number x n u h = contains_has [] _ h

number_of : Sort → ℕ
number_of (OfType T) = T
number_of (BelowParameter n) = n

pub not_typed : ¬ IsTyped worked_context [] (finder (nonce_at 9))
unfolding IsTyped HasSort HaveSorts number_of
not_typed h =
    let condition = h.1.1.0.2 in
    let e : number_of boolean ≡ number_of (OfType 5) = ap number_of (condition.2 ∙ nonce_sort condition.0 condition.1) in
    absurd (omega arith)
