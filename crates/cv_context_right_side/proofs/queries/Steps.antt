-- The eight elementary steps bind no new index.
use Rattle.std.proofs.Common.{◌≡◌, ℕ, ◌==◌, Bool, true, false, not, List, [], ◌∷◌, refl, subst, eqb-true}
use Rattle.std.proofs.lemmas.Bool.{and_parts, both_ways, or_left}
use Rattle.cv_syntax_trees.specs.declared.head.Head.TheVariants as head
use Rattle.cv_syntax_trees.specs.Declarations.{Declaration}
use Rattle.cv_syntax_trees.specs.Tree.{Tree, Empty, Node}
use Rattle.cv_syntax_trees.specs.sites.Sites.{is_untyped_in}
use Rattle.cv_scene.specs.Pruning.{Part}
use Rattle.cv_scene.specs.Scenes.{Scene, first_reading, has_place, is_chosen, is_new, is_output_at, is_queried, is_type, part_at}
use Rattle.cv_scene.specs.Terms.{has_index, has_site, is_bool_at}
use Rattle.cv_derive_laws.specs.stores.Steps.{AreSound, IsSound}
use Rattle.cv_steps.specs.Asked.{AskForNoIndex}
use Rattle.cv_steps.specs.Changes.{after_let, after_new, only, split_process}
use Rattle.cv_steps.specs.Elementary.{let_step, new_step, prune_step, rename_step, rewrite_step, split_step, unlet_step, unnew_step}
use Rattle.cv_steps.specs.Judgements.{Accepted, judgement_of}
use Rattle.cv_steps.specs.Sequences.{IsSequence, Passage, push, scene, start}
use Rattle.cv_steps.specs.Steps.{Cost, Step, Zero}
use Rattle.cv_steps.proofs.Pruned.{prune_leads}
use Rattle.cv_steps.proofs.Rewritten.{rewrite_leads}
use Rattle.cv_steps.proofs.Rows.{leads_same, unless_at_leads, unless_leads}
use Rattle.cv_steps_laws.proofs.Indices.{Lacks, bound_before, lacking_changed, lacking_empty, lacking_left, lacking_node, lacking_renamed, lacking_term, lacking_unletted, lacking_without}
use Rattle.cv_steps_laws.proofs.Keeping.{accepted, next_formed, term_phrase}
use Rattle.cv_steps_laws.proofs.Renamed.{LeadsRenamed, has_site_renamed, rename_leads}
use Rattle.cv_steps_laws.proofs.Unletted.{unlet_leads}
use Rattle.cv_context_right_side.specs.queries.Bound.{BindsNoNewIndex}
use Rattle.cv_context_right_side.proofs.queries.Asked.{variable_no_index}
use Rattle.cv_syntax_trees.proofs.lists.Each.{AllByRecursion_left, AllByRecursion_right}

lacking_split : (i : ℕ) (m t : Tree) → Lacks i m → Lacks i t → Lacks i (split_process m t)
lacking_split i m t k l =
    lacking_node i head.If m (Node head.Cons t (Node head.Cons t Empty)) refl k
    (lacking_node i head.Cons t (Node head.Cons t Empty) refl l (lacking_node i head.Cons t Empty refl l (lacking_empty i)))

pub split_bound : (p : ℕ) (m : Tree) → BindsNoNewIndex (split_step p m)
split_bound p m s next cost e i =
    let r = accepted s (split_step p m) next cost e in
    let o = unless_leads (is_output_at s p) 1 0 _ next cost r.row in
    let q = unless_leads (is_bool_at s p m) 2 0 _ next cost o.1 in
    let t = lacking_term i m (term_phrase s p m (and_parts (has_place s p) _ r.stands).1) in
    bound_before i s.game next (λ d. subst (Lacks i) (leads_same _ next Zero cost q.1) (lacking_changed i s p (split_process m) d (λ k. lacking_split i m (part_at s.game p) t k)))

pub let_bound : (p x T : ℕ) (m : Tree) → BindsNoNewIndex (let_step p x T m)
let_bound p x T m s next cost e i =
    let r = accepted s (let_step p x T m) next cost e in
    let o = unless_leads (is_output_at s p) 1 0 _ next cost r.row in
    let q = unless_leads (is_new s x) 2 0 _ next cost o.1 in
    let t = lacking_term i m (term_phrase s p m (and_parts (is_type s T) _ (and_parts (has_place s p) _ r.stands).1).1) in
    bound_before i s.game next (λ d. subst (Lacks i) (leads_same _ next Zero cost q.1) (lacking_changed i s p (after_let x T m) d (λ k. lacking_node i (head.Let x T) m (part_at s.game p) refl t k)))

pub new_bound : (p x T : ℕ) → BindsNoNewIndex (new_step p x T)
new_bound p x T s next cost e i =
    let r = accepted s (new_step p x T) next cost e in
    let o = unless_leads (is_output_at s p) 1 0 _ next cost r.row in
    let q = unless_leads (is_new s x) 2 0 _ next cost o.1 in
    bound_before i s.game next (λ d. subst (Lacks i) (leads_same _ next Zero cost q.1) (lacking_changed i s p (after_new x T) d (λ k. lacking_node i (head.New x T) Empty (part_at s.game p) refl (lacking_empty i) k)))

pub unnew_bound : (x : ℕ) → BindsNoNewIndex (unnew_step x)
unnew_bound x s next cost e i =
    let r = accepted s (unnew_step x) next cost e in
    let a = unless_leads (is_chosen s x) 1 0 _ next cost r.row in
    let q = unless_leads (not (is_queried s x)) 2 0 _ next cost a.1 in
    let o = unless_at_leads 2 (first_reading x 0 s.game) _ next cost q.1 in
    bound_before i s.game next (λ d. subst (Lacks i) (leads_same _ next Zero cost o.1) (lacking_without i (only x) s.game d))

rename_lacking : (i : ℕ) (s : Scene) (x y : ℕ) (next : Tree) (cost : Cost) → Lacks i s.game → judgement_of s (rename_step x y) ≡ Accepted next cost → Lacks i next
rename_lacking i s x y next cost d e = go (y == i) refl
  where
    z : LeadsRenamed s x y next
    z = rename_leads s x y next cost (accepted s (rename_step x y) next cost e).row

    new : Lacks y next
    new =
        variable_no_index s.declarations next y (next_formed s (rename_step x y) next cost e).scoped
        (or_left (has_site next y) (is_untyped_in y next) (subst (λ t. has_site t y ≡ true) z.leads (has_site_renamed x y s.game z.site)))

    go : (v : Bool) → (y == i) ≡ v → Lacks i next
    go true f = subst (λ j. Lacks j next) (eqb-true y i f) new
    go false f = subst (Lacks i) z.leads (lacking_renamed i x y s.game f d)

pub rename_bound : (x y : ℕ) → BindsNoNewIndex (rename_step x y)
rename_bound x y s next cost e i = bound_before i s.game next (λ d. rename_lacking i s x y next cost d e)

pub unlet_bound : (x : ℕ) → BindsNoNewIndex (unlet_step x)
unlet_bound x s next cost e i =
    let z = unlet_leads s x next cost (accepted s (unlet_step x) next cost e).row in
    bound_before i s.game next (λ d. subst (Lacks i) z.leads (lacking_unletted i x z.assignment s.game z.defined d))

pub rewrite_bound : (p : ℕ) (m by : Tree) → BindsNoNewIndex (rewrite_step p m by)
rewrite_bound p m by s next cost e i =
    let r = accepted s (rewrite_step p m by) next cost e in
    let z = rewrite_leads s p m by next cost r.row in
    let t = lacking_term i m (term_phrase s p m (and_parts (has_place s p) _ r.stands).1) in
    bound_before i s.game next (λ d. subst (Lacks i) z.leads (lacking_changed i s p (λ old. m) d (λ k. t)))

pub prune_bound : (p : ℕ) (part : Part) (by : Tree) → BindsNoNewIndex (prune_step p part by)
prune_bound p part by s next cost e i =
    let r = accepted s (prune_step p part by) next cost e in
    let z = prune_leads s p part by next cost r.row in
    bound_before i s.game next (λ d. subst (Lacks i) z.leads (lacking_changed i s p (λ old. z.gone.left) d (λ k. lacking_left i p (part_at s.game p) part z.gone z.stands k)))

-- So sound steps lead from a game of which the queries ask for no index to another.

pub next_asks_none : (s : Scene) (step : Step) (next : Tree) (cost : Cost) → IsSound step → AskForNoIndex s → judgement_of s step ≡ Accepted next cost → AskForNoIndex (scene s.declarations s.known next)
next_asks_none s step next cost sound k e x q = go (has_index next x) refl
  where
    go : (b : Bool) → has_index next x ≡ b → b ≡ false
    go true h = absurd (both_ways (has_index s.game x) (k x q) (sound.bound s next cost e x h))
    go false h = refl

pub last_asks_none : (ds : List Declaration) (known : ℕ → Bool) (first : Tree) (passages : List Passage) (last : Tree) → AskForNoIndex (scene ds known first) → AreSound passages → IsSequence ds known first passages last → AskForNoIndex (scene ds known last)
last_asks_none ds known first passages last k sound start = k
last_asks_none ds known first passages last k sound (push before game p s e) =
    next_asks_none (scene ds known game) p.step p.next p.cost (AllByRecursion_right (λ q. IsSound q.step) before (p ∷ []) sound).0
    (last_asks_none ds known first before game k (AllByRecursion_left (λ q. IsSound q.step) before (p ∷ []) sound) s) e
