-- A context that calls an oracle, and sides that keep its sorts.
use Rattle.std.proofs.Common.{◌≡◌, ◌<◌, ℕ, Bool, true, false, cond, ◌==◌, ◌||◌, List, [], ◌∷◌, Option, Some, None, refl, sym, subst, inl, inr, arith}
use Rattle.cv_syntax_trees.specs.Tree.{Empty}
use Rattle.cv_meaning.specs.Tapes.{Tape, Key_at}
use Rattle.cv_meaning.specs.Side.{Arrays, OracleCall, Side}
use Rattle.cv_meaning.specs.Memory.{no_memory}
use Rattle.cv_meaning.specs.Terms.{or_zero}
use Rattle.cv_meaning_laws.specs.Worked.{first_value, interpretation_of_file}
use Rattle.cv_meaning_laws.specs.adequacy.Typed.{OfType, Variable, Oracle, HasSort, HaveSorts, IsTyped, IsModel, IsDeclared, size_of, AreOf, AreTypedArrays, IsAnswer, KeepsSorts}
use Rattle.cv_meaning_laws.specs.adequacy.WorkedTyping.{answered_game, one_value, answering_variables, answering_context, oracle, echo, key_teller, counter, with_argument, predecessor}
use Rattle.cv_meaning_laws.proofs.adequacy.Lists.{has_contains}

pub context_typed : IsTyped answering_context [] answered_game
unfolding IsTyped HasSort HaveSorts
context_typed = ((refl, tt), ((OfType 5, refl), ((oracle, refl, refl, (refl, tt)), (OfType 5 ∷ OfType 5 ∷ [], (refl, (refl, tt))), tt)))

sorts_declared : (x : ℕ) (V : Variable) → answering_variables x ≡ Some V → IsDeclared answering_context.declarations V.sort
sorts_declared x V e = go ((x == 4) || ((x == 9) || (x == 13))) e
  where
    declared : IsDeclared answering_context.declarations (OfType 5)
    declared = inr (false, false, Empty, None, has_contains answering_context.declarations _ (inl refl))

    go : (b : Bool) → cond b (Some one_value) None ≡ Some V → IsDeclared answering_context.declarations V.sort
    go true e = let same : one_value ≡ V = cc in subst (λ (Z : Variable). IsDeclared answering_context.declarations Z.sort) same declared
    go false e = cc

pub context_model : IsModel answering_context interpretation_of_file
context_model = record { satisfies = record { choices = omega arith; bool = refl; each = (omega arith, tt) }; variables = sorts_declared }

small : (vs : List ℕ) → AreOf interpretation_of_file (OfType 5 ∷ []) vs → first_value vs < 2
small [] h = absurd h
small (v ∷ vs) h = h.0

-- what is asked of the oracle's answers
abbrev Keeps : Side → Tape → Type 0
Keeps side t = (arrays : Arrays) (call : OracleCall) → AreTypedArrays answering_context interpretation_of_file arrays → AreOf interpretation_of_file (OfType 5 ∷ []) call.arguments → IsAnswer answering_context interpretation_of_file (OfType 5) (side.reply t arrays call)

one_oracle : (side : Side) (t : Tape) → Keeps side t → KeepsSorts answering_context interpretation_of_file side t
one_oracle side t k arrays call O w e h =
    let same : oracle ≡ O = cc in
    subst (λ (Z : Oracle). AreOf interpretation_of_file Z.arguments call.arguments → IsAnswer answering_context interpretation_of_file Z.result (side.reply t arrays call)) same (k arrays call w) h

pub echo_keeps : (t : Tape) → KeepsSorts answering_context interpretation_of_file echo t
echo_keeps t = one_oracle echo t (λ arrays call w h. record { value = small call.arguments h; arrays = w })

pub key_teller_keeps : (t : Tape) → ((key : List ℕ) → t (Key_at key) < 2) → KeepsSorts answering_context interpretation_of_file key_teller t
key_teller_keeps t k = one_oracle key_teller t (λ arrays call w h. record { value = k call.key; arrays = w })

pub predecessor_keeps : (t : Tape) → KeepsSorts answering_context interpretation_of_file predecessor t
predecessor_keeps t = one_oracle predecessor t (λ arrays call w h. record { value = value (arrays 14 call.key call.number) (w 14 call.key call.number oracle (OfType 5)); arrays = assigned arrays call w h })
  where
    value : (o : Option ℕ) → ((v : ℕ) → Some oracle ≡ Some oracle → Some (OfType 5) ≡ Some (OfType 5) → o ≡ Some v → v < 2) → or_zero o < 2
    value None f = omega arith
    value (Some v) f = f v refl refl refl

    assigned : (arrays : Arrays) (call : OracleCall) → AreTypedArrays answering_context interpretation_of_file arrays → AreOf interpretation_of_file (OfType 5 ∷ []) call.arguments → AreTypedArrays answering_context interpretation_of_file (with_argument arrays call)
    assigned arrays call w h x key number O S v e d = two (x == 14) refl
      where
        two : (b : Bool) → (x == 14) ≡ b → cond b (Some (first_value call.arguments)) (arrays x key number) ≡ Some v → v < size_of interpretation_of_file S
        two true p k =
            let same : first_value call.arguments ≡ v = cc in
            let of_oracle : oracle ≡ O = cc in
            let sort : cond (x == 14) (Some (OfType 5)) None ≡ Some S = subst (λ (Z : Oracle). Z.assigned x ≡ Some S) (sym of_oracle) d in
            let given : cond true (Some (OfType 5)) None ≡ Some S = subst (λ b. cond b (Some (OfType 5)) None ≡ Some S) p sort in
            let type : OfType 5 ≡ S = cc in
            subst (λ n. n < size_of interpretation_of_file S) same (subst (λ z. first_value call.arguments < size_of interpretation_of_file z) type (small call.arguments h))
        two false p k = w x key number O S v e d k

pub counter_does_not : (t : Tape) → ¬ KeepsSorts answering_context interpretation_of_file counter t
counter_does_not t k =
    let r = k no_memory.arrays (record { key = []; number = record { tuple = []; site = 0 }; arguments = 0 ∷ [] }) oracle (λ x key number O S v e d o. cc) refl (omega arith, tt) in
    let l : 2 < 2 = r.value in
    omega arith
