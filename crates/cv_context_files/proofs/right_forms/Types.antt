-- In a right body that is typed each name is chosen with one type.
use Rattle.std.proofs.Common.{◌≡◌, ℕ, Bool, true, false, cond, ◌==◌, ◌||◌, not, List, Option, Some, None, is_some, refl, ap, sym, subst, ◌∙◌, eqb-true, eq-eqb}
use Rattle.std.proofs.lemmas.Bool.{both_ways}
use Rattle.std.specs.List.{AllByRecursion}
use Rattle.cv_syntax_trees.specs.declared.head.Head.{Head}
use Rattle.cv_syntax_trees.specs.declared.head.Head.TheVariants.{New, Let}
use Rattle.cv_syntax_trees.specs.Declarations.{Declaration}
use Rattle.cv_syntax_trees.specs.Tree.{Tree, Empty, Node, first, second}
use Rattle.cv_syntax_trees.specs.lists.Options.{first_of}
use Rattle.cv_syntax_trees.specs.declared.sites.sort.Sort.{Sort}
use Rattle.cv_syntax_trees.specs.declared.sites.sort.Sort.TheVariants.{OfType, BelowParameter}
use Rattle.cv_syntax.specs.faults.Walk.{IsObeyed}
use Rattle.cv_scope_rules.specs.declared.typing.fault.Fault.{Fault}
use Rattle.cv_scope_rules.specs.declared.typing.fault.Fault.TheVariants.{WrongType}
use Rattle.cv_scope_rules.specs.typing.Parts.{AreTyped, body_parts, local_in, nothing_above, own_sort, with_taken}
use Rattle.cv_scope_rules.specs.typing.Signature.{Above, OfSide, Signature, sort_by}
use Rattle.cv_syntax_trees.specs.sites.Sorts.{differs_from, same_sort}
use Rattle.cv_scope_rules.specs.typing.Typing.{IsTyped, fault_of, site_differs}
use Rattle.cv_scope_rules.specs.typing.Wants.{Want, is_wrong}
use Rattle.cv_meaning.specs.contexts.Groups.{Function, functions_of}
use Rattle.cv_inline_names_laws.specs.cells.Layout.{IsTypedBy, new_type, type_in, type_or_none}

-- the first of two options

some_first : (o p : Option ℕ) (q r : Option Sort) → (is_some o ≡ true → is_some q ≡ true) → (is_some p ≡ true → is_some r ≡ true) → is_some (first_of o p) ≡ true → is_some (first_of q r) ≡ true
some_first o p (Some S) r i j e = refl
some_first (Some U) p None r i j e = absurd (both_ways false refl (i refl))
some_first None p None r i j e = j e

some_left : (o p : Option ℕ) → is_some o ≡ true → is_some (first_of o p) ≡ true
some_left (Some U) p e = refl
some_left None p e = absurd (both_ways false refl e)

some_right : (o p : Option ℕ) → is_some p ≡ true → is_some (first_of o p) ≡ true
some_right (Some U) p e = refl
some_right None p e = e

some_else : (v : Bool) (U : ℕ) (o : Option ℕ) → is_some o ≡ true → is_some (cond v (Some U) o) ≡ true
some_else true U o e = refl
some_else false U o e = e

second_none : (o p : Option Sort) → first_of o p ≡ None → p ≡ None
second_none None p e = e
second_none (Some S) p e = absurd (cc)

-- each `new` of the tree is such, by its name and its type
abbrev HasNews : (ℕ → ℕ → Type 0) → Tree → Type 0
HasNews P Empty = Unit {0}
HasNews P (Node (New z U) a b) = P z U × HasNews P a × HasNews P b
HasNews P (Node h a b) = HasNews P a × HasNews P b

-- what is chosen first in a tree is chosen there

new_there :
    (v : Bool) (U : ℕ) (o p : Option ℕ) (q r : Option Sort) → (is_some o ≡ true → is_some q ≡ true) → (is_some p ≡ true → is_some r ≡ true)
    → is_some (cond v (Some U) (first_of o p)) ≡ true → is_some (first_of (cond v (Some (OfType U)) None) (first_of q r)) ≡ true
new_there true U o p q r i j e = refl
new_there false U o p q r i j e = some_first o p q r i j e

let_there :
    (v : Bool) (U : ℕ) (o p : Option ℕ) (q r : Option Sort) → (is_some o ≡ true → is_some q ≡ true) → (is_some p ≡ true → is_some r ≡ true)
    → is_some (first_of o p) ≡ true → is_some (first_of (cond v (Some (OfType U)) None) (first_of q r)) ≡ true
let_there true U o p q r i j e = refl
let_there false U o p q r i j e = some_first o p q r i j e

local_there : (z : ℕ) (t : Tree) → is_some (new_type z t) ≡ true → is_some (local_in z t) ≡ true
unfolding new_type local_in
local_there z Empty e = e
local_there z (Node (New x U) a b) e = new_there (x == z) U (new_type z a) (new_type z b) (local_in z a) (local_in z b) (local_there z a) (local_there z b) e
local_there z (Node (Let x U) a b) e = let_there (x == z) U (new_type z a) (new_type z b) (local_in z a) (local_in z b) (local_there z a) (local_there z b) e
local_there z (Node h a b) e = some_first (new_type z a) (new_type z b) (local_in z a) (local_in z b) (local_there z a) (local_there z b) e

of_either : (Q : Type 0) (V : ℕ) (o p : Option ℕ) → (o ≡ Some V → Q) → (p ≡ Some V → Q) → first_of o p ≡ Some V → Q
of_either Q V (Some W) p f g e = f e
of_either Q V None p f g e = g e

of_new :
    (P : ℕ → ℕ → Type 0) (z V x U : ℕ) (o p : Option ℕ) → P x U → (o ≡ Some V → P z V) → (p ≡ Some V → P z V) → (v : Bool)
    → (x == z) ≡ v → cond v (Some U) (first_of o p) ≡ Some V → P z V
of_new P z V x U o p w f g true i e = subst (P z) (same e) (subst (λ y. P y U) (eqb-true x z i) w)
  where
    same : ◌≡◌ {A = Option ℕ} (Some U) (Some V) → U ≡ V
    same e = cc
of_new P z V x U o p w f g false i e = of_either (P z V) V o p f g e

chosen_is : (P : ℕ → ℕ → Type 0) (z V : ℕ) (t : Tree) → HasNews P t → new_type z t ≡ Some V → P z V
unfolding new_type
chosen_is P z V Empty w e = absurd (cc)
chosen_is P z V (Node (New x U) a b) w e = of_new P z V x U (new_type z a) (new_type z b) w.0 (chosen_is P z V a w.1) (chosen_is P z V b w.2) (x == z) refl e
chosen_is P z V (Node h a b) w e = of_either (P z V) V (new_type z a) (new_type z b) (chosen_is P z V a w.0) (chosen_is P z V b w.1) e

-- a body whose function gives names these sorts

module _ (ds : List Declaration) (by_bound : ℕ → ℕ → Option Sort) (own : ℕ → Option Sort) where
  abbrev e : Signature
  e = record { declarations = ds; arrays = OfSide by_bound own }

  agreeing : (above : Above) (w : Want) (h : Head) (a : Tree) → fault_of e above w h a ≡ None → site_differs e.arrays h a ≡ false
  agreeing above w h a k = go (is_wrong w (sort_by e above h a)) (site_differs e.arrays h a) _ k
    where
      go : (u v : Bool) (o : Option Fault) → cond (u || v) (Some WrongType) o ≡ None → v ≡ false
      go u false o k = refl
      go true true o k = absurd (cc)
      go false true o k = absurd (cc)

  news_agree : (t : Tree) (above : Above) (w : Want) → IsTyped e above w t → HasNews (λ z U. differs_from (own z) (OfType U) ≡ false) t
  unfolding IsObeyed
  news_agree Empty above w k = tt
  news_agree (Node (New z U) a b) above w k = (agreeing above w (New z U) a k.0, news_agree a _ _ k.1, news_agree b _ _ k.2)
  news_agree (Node h a b) above w k = (news_agree a _ _ k.1, news_agree b _ _ k.2)

  module _ (body : Tree) (found : (z : ℕ) → own z ≡ None → local_in z body ≡ None) where
    -- the function gives the name this type, and chooses it somewhere
    abbrev IsChosen : ℕ → ℕ → Type 0
    IsChosen z U = (own z ≡ Some (OfType U)) × (is_some (new_type z body) ≡ true)

    chosen : (z U : ℕ) → is_some (new_type z body) ≡ true → differs_from (own z) (OfType U) ≡ false → IsChosen z U
    chosen z U i d = (go (own z) refl d, i)
      where
        same : (S : Sort) → not (same_sort S (OfType U)) ≡ false → ◌≡◌ {A = Option Sort} (Some S) (Some (OfType U))
        same (OfType T) d = equal (T == U) refl d
          where
            equal : (v : Bool) → (T == U) ≡ v → not v ≡ false → ◌≡◌ {A = Option Sort} (Some (OfType T)) (Some (OfType U))
            equal true i d = ap (λ y. Some (OfType y)) (eqb-true T U i)
            equal false i d = absurd (both_ways true d refl)
        same (BelowParameter n) d = absurd (both_ways true d refl)

        go : (o : Option Sort) → own z ≡ o → differs_from o (OfType U) ≡ false → own z ≡ Some (OfType U)
        go (Some S) k d = k ∙ same S d
        go None k d = absurd (both_ways (is_some (local_in z body)) (ap is_some (found z k)) (local_there z body i))

    all_chosen : (t : Tree) → ((z : ℕ) → is_some (new_type z t) ≡ true → is_some (new_type z body) ≡ true) → HasNews (λ z U. differs_from (own z) (OfType U) ≡ false) t → HasNews IsChosen t
    unfolding new_type
    all_chosen Empty inside w = tt
    all_chosen (Node (New x U) a b) inside w = (
      chosen x U (inside x (ap (λ v. is_some (cond v (Some U) (first_of (new_type x a) (new_type x b)))) (eq-eqb x x refl))) w.0,
      all_chosen a (λ z e. inside z (some_else (x == z) U (first_of (new_type z a) (new_type z b)) (some_left (new_type z a) (new_type z b) e))) w.1,
      all_chosen b (λ z e. inside z (some_else (x == z) U (first_of (new_type z a) (new_type z b)) (some_right (new_type z a) (new_type z b) e))) w.2,
    )
    all_chosen (Node h a b) inside w = (all_chosen a (λ z e. inside z (some_left (new_type z a) (new_type z b) e)) w.0, all_chosen b (λ z e. inside z (some_right (new_type z a) (new_type z b) e)) w.1)

    module _ (all : HasNews IsChosen body) where
      type_is : (z U : ℕ) → IsChosen z U → U ≡ type_in body z
      type_is z U w = go (new_type z body) refl w.1
        where
          same : (V : ℕ) → ◌≡◌ {A = Option Sort} (Some (OfType U)) (Some (OfType V)) → U ≡ V
          same V e = cc

          go : (o : Option ℕ) → new_type z body ≡ o → is_some o ≡ true → U ≡ type_in body z
          go (Some V) i k = same V (sym w.0 ∙ (chosen_is IsChosen z V body all i).0) ∙ sym (ap type_or_none i)
          go None i k = absurd (both_ways false refl k)

      typed_by : (t : Tree) → HasNews IsChosen t → IsTypedBy (type_in body) t
      unfolding IsTypedBy
      typed_by Empty w = tt
      typed_by (Node (New z U) a b) w = (type_is z U w.0, typed_by a w.1, typed_by b w.2)
      typed_by (Node h a b) w = (typed_by a w.0, typed_by b w.1)

    one_type : (above : Above) (w : Want) → IsTyped e above w body → IsTypedBy (type_in body) body
    one_type above w k = let c = all_chosen body (λ z e. e) (news_agree body above w k) in typed_by c body c

-- the functions of a side

abbrev pub HasOneType : Function → Type 0
HasOneType f = IsTypedBy (type_in f.body) f.body

pub functions_typed : (ds : List Declaration) (by_bound : ℕ → ℕ → Option Sort) (key : Tree) (Ss : List (Option Sort)) (fs : Tree) → AreTyped ds (body_parts (OfSide by_bound nothing_above) key Ss fs) → AllByRecursion HasOneType (functions_of fs)
unfolding AreTyped body_parts
functions_typed ds by_bound key Ss Empty k = tt
functions_typed ds by_bound key Ss (Node h f more) k = (
  one_type ds by_bound (λ x. own_sort x (first f) (second f)) (second f) (λ z i. second_none (with_taken nothing_above (first f) z) (local_in z (second f)) i) _ _ k.0,
  functions_typed ds by_bound key _ more k.1,
)
