-- What is found at a node is an instance of a function of the group, by its position.
use Rattle.std.proofs.Common.{◌≡◌, ℕ, zero, suc, ◌+◌, Bool, true, false, cond, ◌&&◌, List, [], ◌∷◌, Option, Some, None, refl, ap, subst, ◌∙◌, arith}
use Rattle.std.proofs.lemmas.Bool.{and_parts}
use Rattle.std.specs.List.{AllByRecursion}
use Rattle.std.specs.Prelude.{slice_get}
use Rattle.cv_syntax_trees.specs.Declarations.{Declaration}
use Rattle.cv_syntax_trees.specs.Tree.{Tree, same_tree}
use Rattle.cv_syntax_trees.proofs.Equality.{same_tree_exact}
use Rattle.cv_meaning.specs.contexts.Groups.{Function}
use Rattle.cv_syntax_trees.specs.sites.Sites.{first_of}
use Rattle.cv_scene.specs.Sights.{variable_of}
use Rattle.cv_scene.specs.Instances.{Call, Instance, IsInstance, Matching, are_of_types, call_at, call_by, filled, first_call, guess, is_argument_of, is_coin_of, is_instance, is_read_of}
use Rattle.cv_scene.specs.LeftTerms.{HasLeftTerms, IsLeftFunction}
use Rattle.cv_match_laws.specs.instances.Calls.{IsCallAt}
use Rattle.cv_match_laws.proofs.Deciding.{computed_instance}

record Found (P : Function → Type 0) (M : Matching) (t : Tree) (k : ℕ) (fs : List Function) (c : Call) : Type 0 where
  instance : IsInstance M c.function c.instance t
  holds : P c.function
  distance : ℕ
  position : c.position ≡ k + distance
  function : slice_get fs distance ≡ Some c.function

found_later : (P : Function → Type 0) (M : Matching) (t : Tree) (k : ℕ) (f : Function) (fs : List Function) (c : Call) → Found P M t (suc k) fs c → Found P M t k (f ∷ fs) c
found_later P M t k f fs c h = record { instance = h.instance; holds = h.holds; distance = suc h.distance; position = h.position ∙ (let e : suc k + h.distance ≡ k + suc h.distance = omega arith in e); function = h.function }

found : (P : Function → Type 0) (M : Matching) (t : Tree) (c : Call) (k : ℕ) (fs : List Function) → AllByRecursion P fs → first_call M k fs t ≡ Some c → Found P M t k fs c
found P M t c k [] l e = absurd (none e)
  where
    none : ◌≡◌ {A = Option Call} None (Some c) → ⊥
    none e = cc
found P M t c k (f ∷ fs) l e = go (is_instance M f (guess M.group f t) t) refl e (found P M t c (suc k) fs l.1)
  where
    here : Call
    here = record { position = k; function = f; instance = guess M.group f t }

    go : (b : Bool) → is_instance M f (guess M.group f t) t ≡ b → first_of (call_by k f (cond b (Some (guess M.group f t)) None)) (first_call M (suc k) fs t) ≡ Some c → (first_call M (suc k) fs t ≡ Some c → Found P M t (suc k) fs c) → Found P M t k (f ∷ fs) c
    go true i z ih =
        let same : here ≡ c = cc in
        subst (Found P M t k (f ∷ fs)) same (record { instance = computed_instance M f (guess M.group f t) t i; holds = l.0; distance = zero; position = (let e : k ≡ k + 0 = omega arith in e); function = refl })
    go false i z ih = found_later P M t k f fs c (ih z)

pub call_found : (ds : List Declaration) (M : Matching) (t : Tree) (c : Call) → HasLeftTerms ds M.group → call_at M t ≡ Some c → IsCallAt ds M t c
call_found ds M t c l e =
    let h : Found (IsLeftFunction ds M.group) M t 0 M.group.functions c = found (IsLeftFunction ds M.group) M t c 0 M.group.functions l e in
    record { instance = h.instance; left = h.holds; function = ap (slice_get M.group.functions) (h.position ∙ (let z : 0 + h.distance ≡ h.distance = omega arith in z)) ∙ h.function }
