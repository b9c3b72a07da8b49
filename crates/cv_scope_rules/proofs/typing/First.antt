-- What is computed is the first fault in preorder, and there is none exactly where all is typed.
use Rattle.std.proofs.Common.{◌≡◌, ℕ, ◌+◌, ◌≤◌, List, [], ◌∷◌, Option, Some, None, refl, ◌∙◌, arith, inl, inr}
use Rattle.cv_syntax.specs.faults.Walk.{IsDecided, first_of}
use Rattle.cv_syntax.proofs.faults.First as walk
use Rattle.cv_syntax.proofs.faults.First.{first_none, none_first}
use Rattle.cv_syntax_trees.specs.Declarations.{Declaration}
use Rattle.cv_syntax_trees.specs.Tree.{Tree, size}
use Rattle.cv_scope_rules.specs.declared.typing.fault.Fault.{Fault}
use Rattle.cv_scope_rules.specs.typing.Signature.{Signature, Above}
use Rattle.cv_scope_rules.specs.typing.Wants.{Want}
use Rattle.cv_scope_rules.specs.typing.Typing.{first_fault, typing_walk, IsTyped, IsFirst}
use Rattle.cv_scope_rules.specs.typing.Parts.{Part, signature_of, IsTypedPart, AreTyped, first_in, FaultyIn, IsFirstIn}

-- the computed fault of a node is what is asked
pub typing_decided : (e : Signature) → IsDecided (typing_walk e)
typing_decided e = record {
  obeys = λ s h a b x. x;
  finds_none = λ s h a b x. x;
  breaks = λ s h a b f x. x;
  not_both = λ s h a b f x y. none_some _ f x y;
}
  where
    none_some : (o : Option Fault) (f : Fault) → o ≡ None → o ≡ Some f → ⊥
    none_some None f x y = cc
    none_some (Some g) f x y = cc

module _ (e : Signature) (above : Above) (w : Want) (p : ℕ) (t : Tree) where
  -- no fault is found only in a typed tree
  pub typed_where_none : first_fault e above w p t ≡ None → IsTyped e above w t
  typed_where_none h = walk.obeyed_where_none (typing_walk e) (typing_decided e) (above, w) p t h

  -- in a typed tree no fault is found
  pub none_where_typed : IsTyped e above w t → first_fault e above w p t ≡ None
  none_where_typed h = walk.none_where_obeyed (typing_walk e) (typing_decided e) (above, w) p t h

  -- what is found is the first fault
  pub finds_first : (q : ℕ) (f : Fault) → first_fault e above w p t ≡ Some (q, f) → IsFirst e above w p t q f
  finds_first q f h = walk.finds_first (typing_walk e) (typing_decided e) (above, w) p t q f h

-- parts

pub parts_typed_where_none : (ds : List Declaration) (p : ℕ) (parts : List Part) → first_in ds p parts ≡ None → AreTyped ds parts
unfolding first_in AreTyped
parts_typed_where_none ds p [] h = tt
parts_typed_where_none ds p (part ∷ parts) h =
    let x = none_first (first_fault (signature_of ds part) part.above part.want p part.tree) _ h in
    (typed_where_none (signature_of ds part) part.above part.want p part.tree x.0, parts_typed_where_none ds (p + size part.tree) parts x.1)

pub none_where_parts_typed : (ds : List Declaration) (p : ℕ) (parts : List Part) → AreTyped ds parts → first_in ds p parts ≡ None
unfolding first_in AreTyped
none_where_parts_typed ds p [] h = refl
none_where_parts_typed ds p (part ∷ parts) h =
    first_none (first_fault (signature_of ds part) part.above part.want p part.tree) _ (none_where_typed (signature_of ds part) part.above part.want p part.tree h.0)
    ∙ none_where_parts_typed ds (p + size part.tree) parts h.1

parts_later : (ds : List Declaration) (p : ℕ) (parts : List Part) (q : ℕ) (f : Fault) → FaultyIn ds p parts q f → p ≤ q
unfolding FaultyIn
parts_later ds p [] q f d = absurd d
parts_later ds p (part ∷ parts) q f (inl d) = walk.later (typing_walk (signature_of ds part)) (typing_decided (signature_of ds part)) (part.above, part.want) p part.tree q f d
parts_later ds p (part ∷ parts) q f (inr d) = let i = parts_later ds (p + size part.tree) parts q f d in omega arith

module _ (ds : List Declaration) (p : ℕ) (part : Part) (parts : List Part) (q : ℕ) (f : Fault) where
  in_part : IsFirst (signature_of ds part) part.above part.want p part.tree q f → IsFirstIn ds p (part ∷ parts) q f
  unfolding FaultyIn
  in_part h = record {
    there = inl h.there;
    least = λ r g d. elim d [
      | inl y ↦ h.least r g y
      | inr y ↦ let i = walk.earlier (typing_walk (signature_of ds part)) (typing_decided (signature_of ds part)) (part.above, part.want) p part.tree q f h.there in let j = parts_later ds (p + size part.tree) parts r g y in omega arith
    ];
  }

  in_rest : IsTypedPart ds part → IsFirstIn ds (p + size part.tree) parts q f → IsFirstIn ds p (part ∷ parts) q f
  unfolding FaultyIn
  in_rest t h = record {
    there = inr h.there;
    least = λ r g d. elim d [
      | inl y ↦ absurd (walk.no_fault (typing_walk (signature_of ds part)) (typing_decided (signature_of ds part)) (part.above, part.want) p part.tree r g t y)
      | inr y ↦ h.least r g y
    ];
  }

  part_cases : (l m : Option (ℕ × Fault)) → first_fault (signature_of ds part) part.above part.want p part.tree ≡ l → (m ≡ Some (q, f) → IsFirstIn ds (p + size part.tree) parts q f) → first_of l m ≡ Some (q, f) → IsFirstIn ds p (part ∷ parts) q f
  part_cases (Some u) m y j h = in_part (finds_first (signature_of ds part) part.above part.want p part.tree q f (y ∙ h))
  part_cases None m y j h = in_rest (typed_where_none (signature_of ds part) part.above part.want p part.tree y) (j h)

pub finds_first_in : (ds : List Declaration) (p : ℕ) (parts : List Part) (q : ℕ) (f : Fault) → first_in ds p parts ≡ Some (q, f) → IsFirstIn ds p parts q f
unfolding first_in
finds_first_in ds p [] q f h = absurd (cc)
finds_first_in ds p (part ∷ parts) q f h =
    part_cases ds p part parts q f (first_fault (signature_of ds part) part.above part.want p part.tree) (first_in ds (p + size part.tree) parts) refl (finds_first_in ds (p + size part.tree) parts q f) h

-- one part alone
pub game_alone : (ds : List Declaration) (part : Part) → AreTyped ds (part ∷ []) → IsTypedPart ds part
unfolding AreTyped
game_alone ds part h = h.0

pub alone_game : (ds : List Declaration) (part : Part) → IsTypedPart ds part → AreTyped ds (part ∷ [])
unfolding AreTyped
alone_game ds part h = (h, tt)
