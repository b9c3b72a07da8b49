-- Games without a body.
use Rattle.std.proofs.Common.{◌≡◌, ℕ, zero, suc, ◌<◌, ◌≤◌, ◌⊎◌, inl, inr, Bool, true, false, Option, Some, None, is_some, refl, sym, ap, subst, ◌∙◌, arith}
use Rattle.std.specs.Prelude.{option_map}
use Rattle.std.proofs.lemmas.Bool.{both_ways, and_parts}
use Rattle.cv_syntax_trees.specs.declared.head.Head.TheVariants as head
use Rattle.cv_syntax_trees.specs.declared.head.Head.TheVariants.{Call, Cons, Event, Find, If, Key, Let, New, Out, Yield}
use Rattle.cv_syntax_trees.specs.declared.sites.sort.Sort.{Sort}
use Rattle.cv_syntax_trees.specs.Tree.{Tree, Empty, Node, first_place, second_place, size, subtree}
use Rattle.cv_syntax_trees.proofs.lists.Options.{none_some}
use Rattle.cv_meaning.specs.Replaced.{is_output}
use Rattle.cv_meaning_runs.specs.Replacement.{Process}
use Rattle.cv_meaning_chances.specs.unread.Dropping.{reads_none}
use Rattle.cv_scope_rules.specs.Phrases.{Body, Branches, Inputs, Phrase, is_phrase}
use Rattle.cv_scene.specs.Pruning.{Branch, Else, Part, Pruned, Then, branch_body, find_of, pruned, without_branch}
use Rattle.cv_scene.specs.Scenes.{Scene, or_empty, part_at}
use Rattle.cv_scene.specs.Terms.{is_game}
use Rattle.cv_steps.specs.Changes.{change_at, only}
use Rattle.cv_steps.specs.Rows.{prune_row}
use Rattle.cv_steps.specs.Steps.{Cost, Leads}
use Rattle.cv_steps.proofs.Comes.{placed}
use Rattle.cv_steps.proofs.Pruned.{LeadsWithout, prune_leads, pruned_output}
use Rattle.cv_steps_laws.proofs.Keeping.{IsGame, game_formed}
use Rattle.cv_steps_laws.proofs.chances.Phrases.{if_bodies, phrase_there}
use Rattle.cv_settling_rules.specs.Measure.{large_equalities, lowers}
use Rattle.cv_settling_measures.specs.Orphans.{HasNoOrphan}
use Rattle.cv_settling_measures.proofs.Agreeing.{SitesAre, first_is, sites_are_replaced, sites_left, typed_game_sites}
use Rattle.cv_settling_measures.proofs.Equalities.{equalities_replaced, is_large_term, size_replaced}
use Rattle.cv_settling_measures.proofs.Names.{lower_by}
use Rattle.cv_settling_measures.proofs.Nodes.{AllNodes, inside, nodes_in}
use Rattle.cv_settling_measures.proofs.Sites.{has_sort, site_sort}

-- what stands where an output process stands
pub output_there : (t : Tree) (p : ℕ) → is_output (part_at t p) ≡ true → subtree t p ≡ Some (part_at t p)
output_there t p e = go (subtree t p) e
  where
    go : (o : Option Tree) → is_output (or_empty o) ≡ true → o ≡ Some (or_empty o)
    go None e = absurd (both_ways false refl e)
    go (Some u) e = refl

-- processes have no sort

module _ (s : Scene) where
  pub output_unsorted : (t : Tree) → is_output t ≡ true → is_large_term s t ≡ false
  output_unsorted (Node Yield a b) e = refl
  output_unsorted (Node (Out c) a b) e = refl
  output_unsorted (Node (Event v) a b) e = refl
  output_unsorted (Node (New x T) a b) e = refl
  output_unsorted (Node (Let x T) a b) e = refl
  output_unsorted (Node If a b) e = refl
  output_unsorted (Node (Find l) a b) e = refl
  output_unsorted (Node (Key x) a b) e = refl
  output_unsorted (Node (Call x l) a b) e = refl
  output_unsorted t e = absurd (both_ways false refl e)

  pub body_unsorted : (t : Tree) → is_phrase Body t ≡ true → is_large_term s t ≡ false
  unfolding is_phrase
  body_unsorted (Node Yield a b) e = refl
  body_unsorted (Node (Out c) a b) e = refl
  body_unsorted (Node (Event v) a b) e = refl
  body_unsorted (Node (New x T) a b) e = refl
  body_unsorted (Node (Let x T) a b) e = refl
  body_unsorted (Node If a b) e = refl
  body_unsorted (Node (Find l) a b) e = refl
  body_unsorted t e = absurd (both_ways false refl e)

  -- without a branch

  branch_gone : (p : ℕ) (bs : Tree) (k q : ℕ) → branch_body p bs k ≡ Some q → (size (without_branch bs k) < size bs) × (large_equalities s (without_branch bs k) ≤ large_equalities s bs)
  unfolding size large_equalities
  branch_gone p (Node Cons (Node head.Branch us rest) more) (suc zero) q e = (omega arith, omega arith)
  branch_gone p (Node Cons branch more) (suc (suc k)) q e =
      let r = branch_gone (second_place p Cons branch) more (suc k) q e in (omega (arith, r.0), omega (arith, r.1))
  branch_gone p bs k q e = absurd (none_some q e)

  -- what is left
  record IsLess (t left : Tree) : Type 0 where
    nodes : size left < size t
    equalities : large_equalities s left ≤ large_equalities s t
    unsorted : is_large_term s left ≡ false

  left_is : (q : ℕ) (b : Pruned) (t : Tree) → ◌≡◌ {A = Option Pruned} (Some (record { body = q; left = t })) (Some b) → t ≡ b.left
  left_is q b t e = let same : (let r : Pruned = record { body = q; left = t } in r) ≡ b = cc in ap (λ (r : Pruned). r.left) same

  else_body : (τ : Phrase) (l : ℕ) (bs e : Tree) → is_phrase τ (Node (Find l) bs e) ≡ true → is_phrase Body e ≡ true
  unfolding is_phrase
  else_body Body l bs e w = (and_parts (is_phrase Branches bs) _ w).1
  else_body τ l bs e w = absurd (both_ways false refl w)

  find_less : (l : ℕ) (bs e x : Tree) → is_phrase Body e ≡ true → (size x < size bs) × (large_equalities s x ≤ large_equalities s bs) → IsLess (Node (Find l) bs e) (find_of l x e)
  unfolding size large_equalities
  find_less l bs e Empty w r = record { nodes = omega arith; equalities = omega arith; unsorted = body_unsorted e w }
  find_less l bs e (Node h a b) w r = record { nodes = omega (arith, r.0); equalities = omega (arith, r.1); unsorted = refl }

  left_less : (τ : Phrase) (p : ℕ) (t : Tree) (part : Part) (b : Pruned) → is_phrase τ t ≡ true → pruned p t part ≡ Some b → IsLess t b.left
  unfolding size large_equalities
  left_less τ p (Node If c (Node Cons t (Node Cons e n))) Then b w f =
      subst (IsLess (Node If c (Node Cons t (Node Cons e n)))) (left_is _ b e f)
      (record { nodes = omega arith; equalities = omega arith; unsorted = body_unsorted e (if_bodies τ c t e n w).else })
  left_less τ p (Node If c (Node Cons t (Node Cons e n))) Else b w f =
      subst (IsLess (Node If c (Node Cons t (Node Cons e n)))) (left_is _ b t f)
      (record { nodes = omega arith; equalities = omega arith; unsorted = body_unsorted t (if_bodies τ c t e n w).then })
  left_less τ p (Node (Find l) bs e) (Branch k) b w f = go (branch_body (first_place p (Find l)) bs k) refl f
    where
      go : (o : Option ℕ) → branch_body (first_place p (Find l)) bs k ≡ o → option_map (λ q. record { body = q; left = find_of l (without_branch bs k) e }) o ≡ Some b → IsLess (Node (Find l) bs e) b.left
      go None g f = absurd (none_some b f)
      go (Some q) g f = subst (IsLess (Node (Find l) bs e)) (left_is q b _ f) (find_less l bs e (without_branch bs k) (else_body τ l bs e w) (branch_gone (first_place p (Find l)) bs k q g))
  left_less τ p t part b w f = absurd (none_some b f)

-- a variable that is read in the next game, and has a site there, has its sort
stays : (game next : Tree) → AllNodes (SitesAre (λ x. site_sort x game)) next → HasNoOrphan game next → (x : ℕ) → (site_sort x next ≡ site_sort x game) ⊎ (reads_none (only x) next ≡ true)
stays game next k none x = go (site_sort x next) (site_sort x game) (reads_none (only x) next) refl refl refl
  where
    go : (o u : Option Sort) (v : Bool) → site_sort x next ≡ o → site_sort x game ≡ u → reads_none (only x) next ≡ v → (site_sort x next ≡ site_sort x game) ⊎ (reads_none (only x) next ≡ true)
    go (Some S) u v e f g = inl (e ∙ sym (first_is (λ y. site_sort y game) x S next k e))
    go None None v e f g = inl (e ∙ sym f)
    go None (Some R) true e f g = inr g
    go None (Some R) false e f g = absurd (none x (record { before = has_sort x game ∙ ap is_some f; after = has_sort x next ∙ ap is_some e; read = g }))

pub prune_lowers : (s : Scene) (p : ℕ) (part : Part) (by next : Tree) (cost : Cost) → is_game s.declarations s.game ≡ true → prune_row s p part by ≡ Leads next cost → HasNoOrphan s.game next → lowers s next ≡ true
prune_lowers s p part by next cost g e none =
    let d = prune_leads s p part by next cost e in
    subst (λ t. lowers s t ≡ true) d.leads (after_lowers d (subst (HasNoOrphan s.game) (sym d.leads) none))
  where
    old : Tree
    old = part_at s.game p

    after_lowers : (d : LeadsWithout s p part by next) → HasNoOrphan s.game (change_at s.game p (λ t. d.gone.left)) → lowers s (change_at s.game p (λ t. d.gone.left)) ≡ true
    after_lowers d none =
        let left : Tree = d.gone.left in
        let i : IsGame s.declarations s.game = game_formed s.declarations s.game g in
        let output : is_output old ≡ true = pruned_output p old part d.gone d.stands in
        let there : subtree s.game p ≡ Some old = output_there s.game p output in
        let w = phrase_there old left p Process 0 s.game (change_at s.game p (λ t. left)) (placed s.game p (λ t. left) i.formed.phrase output) Inputs i.formed.phrase in
        let less = left_less s w.0 p old part d.gone w.1 d.stands in
        let sites : AllNodes (SitesAre (λ x. site_sort x s.game)) s.game = typed_game_sites s.declarations s.game i.typed in
        let sites_of_left = sites_left (λ x. site_sort x s.game) p old part d.gone d.stands (nodes_in (SitesAre (λ x. site_sort x s.game)) old s.game (inside s.game p old there) sites) in
        lower_by s (change_at s.game p (λ t. left))
        (stays s.game (change_at s.game p (λ t. left)) (sites_are_replaced (λ x. site_sort x s.game) left sites_of_left Inputs s.game p i.formed.phrase sites) none)
        (inr (
          omega (arith, equalities_replaced s old left (less.unsorted ∙ sym (output_unsorted s old output)) s.game p there, less.equalities),
          omega (arith, size_replaced s.game p old left there, less.nodes),
        ))
