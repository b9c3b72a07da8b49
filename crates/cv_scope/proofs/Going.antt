-- The first fault of a tree, node by node.
use Rattle.std.proofs.Common.{append-nil, cond, Bool, true, false, ◌≡◌, ℕ, ◌+◌, ◌≤◌, List, [], ◌∷◌, ◌++◌, length, take, refl, ap, sym, subst, ◌∙◌, arith, Option, Some, None}
use Rattle.std.proofs.lemmas.List.{length-take, take-take}
use Rattle.cv_pool.specs.KindTree.{KindTree}
use Rattle.cv_syntax_trees.specs.declared.head.Head.{Head}
use Rattle.cv_syntax_trees.specs.Head.{weight}
use Rattle.cv_syntax_trees.specs.Tree.{Tree, Empty, Node, size}
use Rattle.cv_syntax_trees.specs.sites.Sites.{first_of}
use Rattle.cv_scope_rules.specs.declared.fault.Fault.{Fault}
use Rattle.cv_scope_rules.specs.declared.fault.Fault.TheVariants as fault
use Rattle.cv_scope_rules.specs.declared.fault.ScopeFault.{ScopeFault}
use Rattle.cv_scope_rules.specs.declared.fault.ScopeFault.TheVariants as refused
use Rattle.cv_scope.specs.declared.enter.Marks.{Marks}
use Rattle.cv_scope_rules.specs.declared.position.Position.{Position}
use Rattle.cv_scope.specs.declared.state.State.{State}
use Rattle.cv_scope_rules.specs.Context.{first_position, second_position, replications_below}
use Rattle.cv_scope.specs.Held.{Extends, HasLiveBinders, IsEntered, IsTaken, Keeps, OnlySites, SameAbove, cells_held, last_held, state_held}
use Rattle.cv_scope_rules.specs.Refusals.{IsRefusalOf, named, refusal}
use Rattle.cv_scope_rules.specs.Rules.{Names}
use Rattle.cv_syntax.specs.faults.Walk.{placed}
use Rattle.cv_syntax.proofs.faults.Steps as steps
use Rattle.cv_scope.specs.Seen.{Seen, behind, fault_seen, found, passed_by, second_seen, with_node, with_sites, with_tree}
use Rattle.cv_scope_rules.specs.Sites.{Site, SiteName, sites_from, sites_here}
use Rattle.cv_scope_rules.specs.Ranges.{EndBy}
use Rattle.cv_scope_rules.specs.Standing.{parts_ways}
use Rattle.cv_scope.proofs.Entering.{front_all}
use Rattle.cv_scope_rules.proofs.Ranges.{end_later, end_push}
use Rattle.cv_scope.proofs.Faults.{sites_append}

-- what is found

pub found_end : (names : Names) (S : Seen) (w : Position) (p : ℕ) (t : Tree) → t ≡ Empty → found names S w p t ≡ None
unfolding found
found_end names S w p t e = ap (found names S w p) e

-- a node, with what is known of it and its parts
pub found_parts : (names : Names) (S : Seen) (w : Position) (p : ℕ) (t : Tree) (h : Head) (a b : Tree) (o : Option Fault) (S1 S2 : Seen) (w1 w2 : Position) (p1 p2 : ℕ) → t ≡ Node h a b → o ≡ fault_seen names S w p h a b → S1 ≡ with_node S p h a → w1 ≡ first_position w h → p1 ≡ p + weight h → S2 ≡ second_seen S w p h a → w2 ≡ second_position w h → p2 ≡ p + weight h + size a → found names S w p t ≡ first_of (placed p o) (first_of (found names S1 w1 p1 a) (found names S2 w2 p2 b))
unfolding found
found_parts names S w p t h a b o S1 S2 w1 w2 p1 p2 et eo e1 f1 q1 e2 f2 q2 =
    ap (found names S w p) et
    ∙ (ap (λ x. first_of (placed p x) (first_of (found names (with_node S p h a) (first_position w h) (p + weight h) a) (found names (second_seen S w p h a) (second_position w h) (p + weight h + size a) b))) (sym eo)
    ∙ λ i. first_of (placed p o) (first_of (found names (sym e1 i) (sym f1 i) (sym q1 i) a) (found names (sym e2 i) (sym f2 i) (sym q2 i) b)))

-- refusals

named_refusal : (p : ℕ) (f : Fault) → named (refusal p f) ≡ Some (p, f)
named_refusal p fault.Unscoped = refl
named_refusal p fault.TwoSites = refl
named_refusal p fault.Channel = refl
named_refusal p fault.Replications = refl

-- the fault of the node itself is refused
pub refused_here : (p : ℕ) (o : Option Fault) (f : Fault) (m total : Option (ℕ × Fault)) (t : ScopeFault) → o ≡ Some f → first_of (placed p o) m ≡ total → t ≡ refusal p f → IsRefusalOf total t
refused_here p o f m total t e h i = steps.refused_here p o f m total (named t) e h (ap named i ∙ named_refusal p f)

-- the fault of the first part is refused
pub refused_first : (p : ℕ) (o : Option Fault) (m n total : Option (ℕ × Fault)) (t : ScopeFault) → o ≡ None → first_of (placed p o) (first_of m n) ≡ total → IsRefusalOf m t → IsRefusalOf total t
refused_first p o m n total t e h i = steps.refused_first p o m n total (named t) e h i

pub no_memory : (m : Option (ℕ × Fault)) (t : ScopeFault) → t ≡ refused.OutOfMemory → IsRefusalOf m t
no_memory m t e = subst (IsRefusalOf m) (sym e) tt

-- what the state holds

pub held_only : (trees : List KindTree) (s r : State) (sites : List Site) → OnlySites trees s r sites → state_held trees r ≡ record (state_held trees s) { last = with_sites (last_held trees s.last) sites }
held_only trees s r sites m = λ i. record { replications = m.above.replications i; defined = m.above.defined i; listed = cells_held trees (m.above.listed i); passed = m.above.passed i; last = m.last i }

-- the tree's sites: the node's, those of the first part, and those of the second
pub sites_node : (last : SiteName → Option Site) (rs : List (ℕ × ℕ)) (p : ℕ) (t : Tree) (h : Head) (a b : Tree) → t ≡ Node h a b → with_sites last (sites_from rs p t) ≡ with_sites (with_sites (with_sites last (sites_here rs p h a)) (sites_from rs (p + weight h) a)) (sites_from (replications_below h rs) (p + weight h + size a) b)
unfolding sites_from
sites_node last rs p t h a b e =
    ap (λ u. with_sites last (sites_from rs p u)) e
    ∙ (sites_append last (sites_here rs p h a) (sites_from rs (p + weight h) a ++ sites_from (replications_below h rs) (p + weight h + size a) b)
    ∙ sites_append (with_sites last (sites_here rs p h a)) (sites_from rs (p + weight h) a) (sites_from (replications_below h rs) (p + weight h + size a) b))

pub sites_end : (last : SiteName → Option Site) (rs : List (ℕ × ℕ)) (p : ℕ) (t : Tree) → t ≡ Empty → with_sites last (sites_from rs p t) ≡ last
unfolding sites_from
sites_end last rs p t e = ap (λ u. with_sites last (sites_from rs p u)) e

-- what was known at the beginning

front_on : {A : Type 0} (m : ℕ) (xs ys zs : List A) → m ≡ length zs → take m xs ≡ zs → take (length xs) ys ≡ xs → take m ys ≡ zs
front_on m xs ys zs e f g =
    let l : m ≤ length xs = omega (arith, e, ap length f, length-take m xs) in
    sym (take-take m (length xs) ys l) ∙ (ap (take m) g ∙ f)

pub keeps_same : (marks : Marks) (s r q : State) → Keeps marks s r → SameAbove r q → Keeps marks s q
keeps_same marks s r q k m = record {
  replications = ap (take marks.replications) m.replications ∙ k.replications;
  defined = ap (take marks.defined) m.defined ∙ k.defined;
  listed = ap (take marks.listed) m.listed ∙ k.listed;
  passed = ap (take marks.passed) m.passed ∙ k.passed;
}

pub keeps_more : (marks : Marks) (s r q : State) → marks.replications ≡ length s.replications.items → marks.defined ≡ length s.defined → marks.listed ≡ length s.listed → marks.passed ≡ length s.passed → Keeps marks s r → Extends r q → Keeps marks s q
keeps_more marks s r q a b c d k m = record {
  replications = front_on marks.replications r.replications.items q.replications.items s.replications.items a k.replications m.replications;
  defined = front_on marks.defined r.defined q.defined s.defined b k.defined m.defined;
  listed = front_on marks.listed r.listed q.listed s.listed c k.listed m.listed;
  passed = front_on marks.passed r.passed q.passed s.passed d k.passed m.passed;
}

-- at the end all else is as it was
pub released : (trees : List KindTree) (marks : Marks) (s r q : State) (sites : List Site) → Keeps marks s r → IsTaken marks r q → last_held trees r.last ≡ with_sites (last_held trees s.last) sites → HasLiveBinders (length trees) r.last → OnlySites trees s q sites
released trees marks s r q sites k t l v = record {
  above = record { replications = t.replications ∙ k.replications; defined = t.defined ∙ k.defined; listed = t.listed ∙ k.listed; passed = t.passed ∙ k.passed };
  last = ap (last_held trees) t.last ∙ l;
  live = subst (HasLiveBinders (length trees)) (sym t.last) v;
}

-- a node's own sites are noted, then those of its first part, and then what the second part knows is learned
module _ (trees : List KindTree) (s s1 s2 s3 : State) (w : Position) (h : Head) (a : Tree) (p p1 p2 : ℕ) (e1 : OnlySites trees s s1 (sites_here s.replications.items p h a)) (q1 : p1 ≡ p + weight h) (e2 : OnlySites trees s1 s2 (sites_from s1.replications.items p1 a)) (q2 : p2 ≡ p1 + size a) (e3 : IsEntered trees s2 s3 w h a p1 p2) where
  place_second : p2 ≡ p + weight h + size a
  place_second = q2 ∙ ap (λ n. n + size a) q1

  pub seen_second : state_held trees s3 ≡ second_seen (state_held trees s) w p h a
  seen_second =
      e3.held
      ∙ (ap (λ S. behind S w h a p1 p2) (held_only trees s1 s2 (sites_from s1.replications.items p1 a) e2 ∙ ap (λ S. with_tree S p1 a) (held_only trees s s1 (sites_here s.replications.items p h a) e1))
      ∙ λ i. behind (with_tree (with_node (state_held trees s) p h a) (q1 i) a) w h a (q1 i) (place_second i))

  pub sites_second : (t b : Tree) → t ≡ Node h a b → with_sites (last_held trees s3.last) (sites_from s3.replications.items p2 b) ≡ with_sites (last_held trees s.last) (sites_from s.replications.items p t)
  sites_second t b e =
      let rs : s3.replications.items ≡ replications_below h s.replications.items = ap (λ S. S.replications) seen_second in
      let last : last_held trees s3.last ≡ with_sites (with_sites (last_held trees s.last) (sites_here s.replications.items p h a)) (sites_from s.replications.items (p + weight h) a) = ap (λ S. S.last) seen_second in
      (λ i. with_sites (last i) (sites_from (rs i) (place_second i) b)) ∙ sym (sites_node (last_held trees s.last) s.replications.items p t h a b e)

  pub passed_second : EndBy p s.passed → EndBy p2 s3.passed
  passed_second m =
      let same : s3.passed ≡ s.passed ++ passed_by w h p1 p2 = ap (λ S. S.passed) e3.held ∙ ap (λ l. l ++ passed_by w h p1 p2) (e2.above.passed ∙ e1.above.passed) in
      subst (EndBy p2) (sym same) (ranges_end w h (end_later p p2 s.passed m (omega (arith, q1, q2))))
    where
      ranges_end : (w : Position) (h : Head) → EndBy p2 s.passed → EndBy p2 (s.passed ++ passed_by w h p1 p2)
      ranges_end w h n = go (parts_ways w h)
        where
          go : (b : Bool) → EndBy p2 (s.passed ++ cond b ((p1, p2) ∷ []) [])
          go true = end_push p2 p1 p2 s.passed n (omega arith)
          go false = subst (EndBy p2) (sym (append-nil s.passed)) n

pub passed_first : (s s2 : State) (p q : ℕ) → s2.passed ≡ s.passed → EndBy p s.passed → p ≤ q → EndBy q s2.passed
passed_first s s2 p q e m l = subst (EndBy q) (sym e) (end_later p q s.passed m l)

pub refused_as : (m total : Option (ℕ × Fault)) (t : ScopeFault) → m ≡ total → IsRefusalOf m t → IsRefusalOf total t
refused_as m total t e i = subst (λ (x : Option (ℕ × Fault)). IsRefusalOf x t) e i
