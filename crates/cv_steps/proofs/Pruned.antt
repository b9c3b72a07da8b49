-- What follows of a row by which a body goes: which construct stands there, and what is left of it.
use Rattle.std.proofs.Common.{◌≡◌, ℕ, zero, suc, true, Option, Some, None, refl, ap, subst}
use Rattle.std.specs.Prelude.{option_map}
use Rattle.cv_syntax_trees.specs.declared.head.Head.{Head}
use Rattle.cv_syntax_trees.specs.declared.head.Head.TheVariants.{Cons, Find, If}
use Rattle.cv_syntax_trees.specs.Tree.{Tree, Empty, Node, first_place}
use Rattle.cv_meaning.specs.Replaced.{is_output}
use Rattle.cv_scene.specs.lines.Ends.{ends_with}
use Rattle.cv_scene.specs.lines.Targets.{falsity}
use Rattle.cv_scene.specs.Scenes.{Scene, part_at}
use Rattle.cv_scene.specs.Sights.{sight_at}
use Rattle.cv_scene.specs.Derivations.{Derives, first_bad_line}
use Rattle.cv_scene.specs.Pruning.{Branch, Else, Part, Pruned, Then, branch_body, find_of, pruned, without_branch}
use Rattle.cv_steps.specs.Steps.{Cost, Leads, Zero}
use Rattle.cv_steps.specs.Changes.{change_at}
use Rattle.cv_steps.specs.Rows.{prune_row, prune_row_by, unless}
use Rattle.cv_steps.proofs.Rows.{leads_same, unless_at_leads, unless_leads}

-- the construct at the place without a part, where `false` is derived at the part
pub record LeadsWithout (s : Scene) (place : ℕ) (part : Part) (by next : Tree) : Type 0 where
  pub gone : Pruned
  pub stands : pruned place (part_at s.game place) part ≡ Some gone
  pub derives : Derives (sight_at s gone.body) by falsity
  pub leads : change_at s.game place (λ old. gone.left) ≡ next

pub prune_leads : (s : Scene) (place : ℕ) (part : Part) (by next : Tree) (cost : Cost) → prune_row s place part by ≡ Leads next cost → LeadsWithout s place part by next
prune_leads s place part by next cost e = go (pruned place (part_at s.game place) part) refl e
  where
    go : (o : Option Pruned) → pruned place (part_at s.game place) part ≡ o → prune_row_by s place by o ≡ Leads next cost → LeadsWithout s place part by next
    go None f e = absurd (cc)
    go (Some b) f e =
        let left : Tree = change_at s.game place (λ old. b.left) in
        let r = unless_at_leads 2 (first_bad_line (sight_at s b.body) by) (unless (ends_with by falsity) 3 0 (Leads left Zero)) next cost e in
        let q = unless_leads (ends_with by falsity) 3 0 (Leads left Zero) next cost r.1 in
        record { gone = b; stands = f; derives = record { right = r.0; end = q.0 }; leads = leads_same left next Zero cost q.1 }

pub pruned_output : (p : ℕ) (t : Tree) (part : Part) (b : Pruned) → pruned p t part ≡ Some b → is_output t ≡ true
pruned_output p (Node If c (Node Cons t (Node Cons e n))) part b f = refl
pruned_output p (Node (Find l) bs e) part b f = refl
pruned_output p t part b f = absurd (cc)

left_same : (q : ℕ) (b : Pruned) (t : Tree) → ◌≡◌ {A = Option Pruned} (Some (record { body = q; left = t })) (Some b) → t ≡ b.left
left_same q b t e = let same : (let r : Pruned = record { body = q; left = t } in r) ≡ b = cc in ap (λ (r : Pruned). r.left) same

-- a fact of a tree that its parts have, and that a node keeps with another second child, or a `find` with other branches
module _ (P : Tree → Type 0) (parts : (h : Head) (a b : Tree) → P (Node h a b) → P a × P b) (second : (h : Head) (a b c : Tree) → P (Node h a b) → P c → P (Node h a c)) (first : (l : ℕ) (a b c : Tree) → P (Node (Find l) a b) → P c → P (Node (Find l) c b)) where
  branches_keep : (bs : Tree) (k : ℕ) → P bs → P (without_branch bs k)
  branches_keep (Node h branch more) (suc zero) d = (parts h branch more d).1
  branches_keep (Node h branch more) (suc (suc k)) d = second h branch more (without_branch more (suc k)) d (branches_keep more (suc k) (parts h branch more d).1)
  branches_keep Empty k d = d
  branches_keep (Node h branch more) zero d = d

  find_keeps : (l : ℕ) (bs e : Tree) → P (Node (Find l) bs e) → (x : Tree) → P x → P (find_of l x e)
  find_keeps l bs e d Empty k = (parts (Find l) bs e d).1
  find_keeps l bs e d (Node h a b) k = first l bs e (Node h a b) d k

  -- what is left has the fact
  pub left_keeps : (p : ℕ) (t : Tree) (part : Part) (b : Pruned) → pruned p t part ≡ Some b → P t → P b.left
  left_keeps p (Node If c (Node Cons t (Node Cons e n))) Then b f d =
      let same : e ≡ b.left = left_same _ b e f in
      subst P same (parts Cons e n (parts Cons t (Node Cons e n) (parts If c (Node Cons t (Node Cons e n)) d).1).1).0
  left_keeps p (Node If c (Node Cons t (Node Cons e n))) Else b f d =
      let same : t ≡ b.left = left_same _ b t f in
      subst P same (parts Cons t (Node Cons e n) (parts If c (Node Cons t (Node Cons e n)) d).1).0
  left_keeps p (Node (Find l) bs e) (Branch k) b f d = go (branch_body (first_place p (Find l)) bs k) f
    where
      go : (o : Option ℕ) → option_map (λ q. record { body = q; left = find_of l (without_branch bs k) e }) o ≡ Some b → P b.left
      go None f = absurd (cc)
      go (Some q) f = let same : find_of l (without_branch bs k) e ≡ b.left = left_same q b (find_of l (without_branch bs k) e) f in subst P same (find_keeps l bs e d (without_branch bs k) (branches_keep bs k (parts (Find l) bs e d).0))
  left_keeps p t part b f d = absurd (cc)
