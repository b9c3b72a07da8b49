-- What is found by the tables is the first fault.
use Rattle.std.proofs.Common.{◌≡◌, ℕ, ◌+◌, ◌<◌, Bool, true, false, ◌&&◌, ◌||◌, not, cond, List, [], ◌∷◌, ◌++◌, length, refl, ap, ap₂, sym, ◌∙◌, subst, arith, Option, Some, None, append_assoc, append-nil}
use Rattle.cv_syntax.specs.faults.Walk.{first_fault as walk_fault, placed}
use Rattle.cv_syntax_trees.specs.declared.head.Head.{Head}
use Rattle.cv_syntax_trees.specs.declared.head.Head.TheVariants.{Leaf, Read}
use Rattle.cv_syntax_trees.specs.Head.{weight}
use Rattle.cv_syntax_trees.specs.Tree.{Tree, Empty, Node, size}
use Rattle.cv_syntax_trees.specs.sites.Sites.{first_of}
use Rattle.cv_scope_rules.specs.declared.fault.Fault.{Fault}
use Rattle.cv_scope_rules.specs.declared.fault.Fault.TheVariants as fault
use Rattle.cv_syntax_trees.specs.Declarations.{Declaration}
use Rattle.cv_syntax_trees.specs.Children.{is_empty}
use Rattle.cv_scope_rules.specs.declared.fault.ScopeFault.{ScopeFault}
use Rattle.cv_scope_rules.specs.declared.fault.ScopeFault.TheVariants as refused
use Rattle.cv_scope_rules.specs.Refusals.{IsFirstRefusal, IsRefusalOf}
use Rattle.cv_scope_rules.specs.declared.position.Position.{Position}
use Rattle.cv_scope_rules.specs.declared.position.Position.TheVariants.{Anywhere, OneCell}
use Rattle.cv_scope_rules.specs.Rules.{Names, is_index, carries_current}
use Rattle.cv_scope_rules.specs.Scope.{IsFirstFault, IsScoped, IsScopedAt, first_fault, first_scope_fault, names_of}
use Rattle.cv_scope.specs.Seen.{Seen, fault_seen, current, found, is_defined_at, is_reached, is_read_reached, is_scoped_read, is_well_replicated, may_stand_last, no_site, nothing_seen, second_seen, with_node, with_sites, with_tree}
use Rattle.cv_scope_rules.specs.Sites.{InOneOf, Site, channel_here, named_here, sites_from, sites_here}
use Rattle.cv_scope_rules.specs.Standing.{Standing, at_root, first_standing, second_standing, parts_ways, passed_second}
use Rattle.cv_scope_rules.specs.Tests.{fault_of, is_in_scope, may_stand, reads_in_reach}
use Rattle.cv_scope_rules.proofs.Apart.{IsApart, IsBefore, IsWithin, before_first, before_second, first_replications, second_replications, here_apart, in_fewer, in_last, in_more, past_end, tree_apart, tree_within}
use Rattle.cv_scope_rules.proofs.Decided.{first_failing, node_obeys}
use Rattle.cv_scope.proofs.Faults.{sites_append}
use Rattle.cv_scope_rules.proofs.First.{finds_first, scoped_where_none}
use Rattle.cv_scope.proofs.Latest.{IsCovered, all_stand}
use Rattle.cv_scope_rules.specs.Branches.{Each, Pairs, IsLike}
use Rattle.cv_scope_rules.proofs.Pairs.{each_weaker, pairs_append, pairs_of, pairs_weaker}
use Rattle.cv_scope.proofs.Reaching.{AreBounded, ReachesAlike, bounded_behind, reaches_first, reaches_second}
use Rattle.cv_syntax_trees.proofs.lists.Tests.{and_false, or_false}

-- the tables hold what is known where a node stands
pub record Agrees (S : Seen) (s : Standing) : Type 0 where
  pub replications : S.replications ≡ s.known.replications
  pub passed : S.passed ≡ s.passed
  pub last : S.last ≡ with_sites no_site s.sites
  pub reach : ReachesAlike S s.known
  pub bounded : AreBounded (length S.replications) S.defined
  pub before : IsBefore s
  pub covered : Pairs (IsCovered s.passed) s.sites

-- nodes

reads_agree : (names : Names) (S : Seen) (s : Standing) (h : Head) (a b : Tree) → Agrees S s → is_read_reached names S h a b ≡ reads_in_reach names s.known h a b
reads_agree names S s (Leaf x) a b m = ap₂ (λ (rs : List (ℕ × ℕ)) (c : Bool). is_index rs x || (names.constant x || c)) m.replications (m.reach (Leaf x) a b)
reads_agree names S s (Read x) a b m = m.reach (Read x) a b
reads_agree names S s h a b m = refl

scoped_agree : (names : Names) (w : Position) (S : Seen) (s : Standing) (h : Head) (a b : Tree) → Agrees S s → is_scoped_read names w S h a b ≡ is_in_scope names w s.known h a b
scoped_agree names OneCell S s h a b m = refl
scoped_agree names w S s h a b m = reads_agree names S s h a b m

stand_agree : (S : Seen) (s : Standing) (here : List (ℕ × ℕ) → List Site) → Agrees S s → may_stand_last S.passed S.last (here S.replications) ≡ may_stand s.passed s.sites (here s.known.replications)
stand_agree S s here m =
    (λ i. may_stand_last (m.passed i) (m.last i) (here (m.replications i)))
    ∙ sym (all_stand s.passed (here s.known.replications) s.sites m.covered)

same_failing : (u u' t t' c c' r r' : Bool) → u ≡ u' → t ≡ t' → c ≡ c' → r ≡ r' → first_failing u t c r ≡ first_failing u' t' c' r'
same_failing u u' t t' c c' r r' e f g h = λ i. first_failing (e i) (f i) (g i) (h i)

pub node_agrees : (names : Names) (S : Seen) (s : Standing) (h : Head) (a b : Tree) → Agrees S s → fault_seen names S s.position s.place h a b ≡ fault_of names s h a b
node_agrees names S s h a b m =
    same_failing _ _ _ _ _ _ _ _
    (scoped_agree names s.position S s h a b m)
    (stand_agree S s (λ rs. named_here rs s.place h a) m)
    (ap₂ ◌&&◌ (ap (λ rs. carries_current rs h a) m.replications) (stand_agree S s (λ rs. channel_here rs s.place h a) m))
    (ap (λ rs. is_well_replicated names rs h a) m.replications)

-- the first child

apart_covers : (passed : List (ℕ × ℕ)) (e l : Site) → IsApart passed e l → IsCovered passed e l
apart_covers passed e l m n = (λ k. (m n).0, (m n).1)

covered_here : (names : Names) (s : Standing) (h : Head) (a b : Tree) → fault_of names s h a b ≡ None → Pairs (IsCovered s.passed) s.sites → Pairs (IsCovered s.passed) (s.sites ++ sites_here s.known.replications s.place h a)
covered_here names s h a b e p =
    let here = sites_here s.known.replications s.place h a in
    let obeys = node_obeys names s h a b e in
    let n = here_apart names s h a b (obeys fault.TwoSites) (obeys fault.Channel).1 in
    pairs_append (IsCovered s.passed) s.sites here p (pairs_weaker (IsApart s.passed) (IsCovered s.passed) here (apart_covers s.passed) n.1) (each_weaker (IsApart s.passed) (IsCovered s.passed) s.sites here (apart_covers s.passed) n.0)

last_here : (S : Seen) (s : Standing) (h : Head) (a : Tree) → Agrees S s → with_sites S.last (sites_here S.replications s.place h a) ≡ with_sites no_site (s.sites ++ sites_here s.known.replications s.place h a)
last_here S s h a m = (λ i. with_sites (m.last i) (sites_here (m.replications i) s.place h a)) ∙ sym (sites_append no_site s.sites (sites_here s.known.replications s.place h a))

pub first_agrees : (names : Names) (S : Seen) (s : Standing) (h : Head) (a b : Tree) → fault_of names s h a b ≡ None → Agrees S s → Agrees (with_node S s.place h a) (first_standing s h a)
first_agrees names S s h a b e m = record {
  replications = m.replications ∙ sym (first_replications s.position h s.known);
  passed = m.passed;
  last = last_here S s h a m;
  reach = reaches_first S s.position h s.known m.reach;
  bounded = m.bounded;
  before = before_first s h a m.before;
  covered = covered_here names s h a b e m.covered;
}

-- the second child

module _ (names : Names) (s : Standing) (h : Head) (a b : Tree) (e : fault_of names s h a b ≡ None) (i : IsScopedAt names (first_standing s h a) a) (m : IsBefore s) (c : Pairs (IsCovered s.passed) s.sites) where
  here : List Site
  here = sites_here s.known.replications s.place h a

  left : List Site
  left = sites_from s.known.replications (s.place + weight h) a

  tree : Each (IsApart s.passed) (s.sites ++ here) left × Pairs IsLike left
  unfolding here left
  tree = subst (λ l. Each (IsApart s.passed) (s.sites ++ here) (sites_from l (s.place + weight h) a) × Pairs IsLike (sites_from l (s.place + weight h) a)) (first_replications s.position h s.known) (tree_apart names (first_standing s h a) a (before_first s h a m) i)

  more : (p : ℕ) → InOneOf s.passed p → InOneOf (passed_second s h a) p
  more p k = go (parts_ways s.position h)
    where
      go : (d : Bool) → InOneOf (cond d (s.passed ++ (s.place + weight h, s.place + weight h + size a) ∷ []) s.passed) p
      go true = in_more s.passed ((s.place + weight h, s.place + weight h + size a) ∷ []) p k
      go false = k

  fewer : (p : ℕ) → p < s.place + weight h → InOneOf (passed_second s h a) p → InOneOf s.passed p
  fewer p l k = go (parts_ways s.position h) k
    where
      go : (d : Bool) → InOneOf (cond d (s.passed ++ (s.place + weight h, s.place + weight h + size a) ∷ []) s.passed) p → InOneOf s.passed p
      go true n = in_fewer s.passed (s.place + weight h, s.place + weight h + size a) p l n
      go false n = n

  -- among the sites up to the node's own
  older : Pairs (IsCovered (passed_second s h a)) (s.sites ++ here)
  unfolding here
  older =
      pairs_of (λ (x : Site). x.place < s.place + weight h) (IsCovered s.passed) (IsCovered (passed_second s h a)) (s.sites ++ here)
      (λ x y p q r n. (λ k. more x.place ((r n).0 (fewer y.place q k)), (r n).1))
      (before_first s h a m).sites (covered_here names s h a b e c)

  -- those of the first part are passed, or in no branch that is
  younger : Pairs (IsCovered (passed_second s h a)) left
  unfolding left
  younger =
      pairs_of (IsWithin (s.place + weight h) (s.place + weight h + size a)) IsLike (IsCovered (passed_second s h a)) left
      (λ x y p q r n. (go x y p q (parts_ways s.position h), r n))
      (tree_within s.known.replications (s.place + weight h) a) tree.1
    where
      go : (x y : Site) → IsWithin (s.place + weight h) (s.place + weight h + size a) x → IsWithin (s.place + weight h) (s.place + weight h + size a) y → (d : Bool) → InOneOf (cond d (s.passed ++ (s.place + weight h, s.place + weight h + size a) ∷ []) s.passed) y.place → InOneOf (cond d (s.passed ++ (s.place + weight h, s.place + weight h + size a) ∷ []) s.passed) x.place
      go x y p q true k = in_last s.passed (s.place + weight h, s.place + weight h + size a) x.place p.0 p.1
      go x y p q false k = absurd (past_end s.passed s.place y.place m.passed (omega (arith, q.0)) k)

  pub covered_second : Pairs (IsCovered (passed_second s h a)) (s.sites ++ (sites_here s.known.replications s.place h a ++ sites_from s.known.replications (s.place + weight h) a))
  unfolding here left
  covered_second =
      subst (Pairs (IsCovered (passed_second s h a))) (append_assoc s.sites here left)
      (pairs_append (IsCovered (passed_second s h a)) (s.sites ++ here) left older younger
      (each_weaker (IsApart s.passed) (IsCovered (passed_second s h a)) (s.sites ++ here) left (λ x y r n. (λ k. more x.place (r n).0, (r n).1)) tree.0))

last_second : (S : Seen) (s : Standing) (h : Head) (a : Tree) → Agrees S s → (second_seen S s.position s.place h a).last ≡ with_sites no_site (second_standing s h a).sites
last_second S s h a m =
    let here = sites_here s.known.replications s.place h a in
    let left = sites_from s.known.replications (s.place + weight h) a in
    (λ i. with_sites (with_sites (m.last i) (sites_here (m.replications i) s.place h a)) (sites_from (m.replications i) (s.place + weight h) a))
    ∙ (ap (λ f. with_sites f left) (sym (sites_append no_site s.sites here))
    ∙ (sym (sites_append no_site (s.sites ++ here) left)
    ∙ ap (with_sites no_site) (append_assoc s.sites here left)))

passed_agrees : (S : Seen) (s : Standing) (h : Head) (a : Tree) → Agrees S s → (second_seen S s.position s.place h a).passed ≡ passed_second s h a
passed_agrees S s h a m = ap (λ l. l ++ cond (parts_ways s.position h) ((s.place + weight h, s.place + weight h + size a) ∷ []) []) m.passed ∙ go (parts_ways s.position h)
  where
    go : (d : Bool) → s.passed ++ cond d ((s.place + weight h, s.place + weight h + size a) ∷ []) [] ≡ cond d (s.passed ++ (s.place + weight h, s.place + weight h + size a) ∷ []) s.passed
    go true = refl
    go false = append-nil s.passed

pub second_agrees : (names : Names) (S : Seen) (s : Standing) (h : Head) (a b : Tree) → fault_of names s h a b ≡ None → IsScopedAt names (first_standing s h a) a → Agrees S s → Agrees (second_seen S s.position s.place h a) (second_standing s h a)
second_agrees names S s h a b e i m =
    let T = with_tree (with_node S s.place h a) (s.place + weight h) a in
    record {
      replications = ap (Rattle.cv_scope_rules.specs.Context.replications_below h) m.replications ∙ sym (second_replications s.position h a s.known);
      passed = passed_agrees S s h a m;
      last = last_second S s h a m;
      reach = reaches_second T s.position h a (s.place + weight h) (s.place + weight h + size a) s.known m.replications m.bounded m.reach;
      bounded = bounded_behind T s.position h a (s.place + weight h) (s.place + weight h + size a) m.bounded;
      before = before_second s h a m.before;
      covered = covered_second names s h a b e i m.before m.covered;
    }

-- trees

pub found_first : (names : Names) (t : Tree) (S : Seen) (s : Standing) → Agrees S s → found names S s.position s.place t ≡ first_fault names s t
unfolding found walk_fault
found_first names Empty S s m = refl
found_first names (Node h a b) S s m =
    ap (λ o. first_of (placed s.place o) (first_of (found names (with_node S s.place h a) (first_standing s h a).position (s.place + weight h) a) (found names (second_seen S s.position s.place h a) (second_standing s h a).position (s.place + weight h + size a) b))) (node_agrees names S s h a b m)
    ∙ go (fault_of names s h a b) refl (λ e. found_first names a (with_node S s.place h a) (first_standing s h a) (first_agrees names S s h a b e m)) (λ e f. found_first names b (second_seen S s.position s.place h a) (second_standing s h a) (second_agrees names S s h a b e (scoped_where_none names (first_standing s h a) a f) m))
  where
    rest : (l l' r r' : Option (ℕ × Fault)) → l ≡ l' → (l' ≡ None → r ≡ r') → first_of l r ≡ first_of l' r'
    rest l l' r r' e f = ap (λ o. first_of o r) e ∙ last l' refl
      where
        last : (o : Option (ℕ × Fault)) → l' ≡ o → first_of o r ≡ first_of o r'
        last (Some x) g = refl
        last None g = f g

    go : (o : Option Fault) → fault_of names s h a b ≡ o → (fault_of names s h a b ≡ None → found names (with_node S s.place h a) (first_standing s h a).position (s.place + weight h) a ≡ first_fault names (first_standing s h a) a) → (fault_of names s h a b ≡ None → first_fault names (first_standing s h a) a ≡ None → found names (second_seen S s.position s.place h a) (second_standing s h a).position (s.place + weight h + size a) b ≡ first_fault names (second_standing s h a) b) → first_of (placed s.place o) (first_of (found names (with_node S s.place h a) (first_standing s h a).position (s.place + weight h) a) (found names (second_seen S s.position s.place h a) (second_standing s h a).position (s.place + weight h + size a) b)) ≡ first_of (placed s.place o) (first_of (first_fault names (first_standing s h a) a) (first_fault names (second_standing s h a) b))
    go (Some f) e ih jh = refl
    go None e ih jh = rest _ _ _ _ (ih e) (jh e)

root_agrees : Agrees nothing_seen at_root
root_agrees = record {
  replications = refl;
  passed = refl;
  last = refl;
  reach = λ k x y. nothing k x y;
  bounded = tt;
  before = record { sites = tt; passed = tt };
  covered = tt;
}
  where
    nothing : (k : Head) (x y : Tree) → is_reached nothing_seen k x y ≡ false
    nothing (Leaf z) x y = or_false (is_empty x && (is_empty y && false)) ∙ (ap (λ c. is_empty x && c) (and_false (is_empty y)) ∙ and_false (is_empty x))
    nothing (Read z) x y = or_false (not (is_empty x) && (is_empty y && is_defined_at [] z (current [] x))) ∙ (ap (λ c. not (is_empty x) && (is_empty y && c)) (none (current [] x)) ∙ (ap (λ c. not (is_empty x) && c) (and_false (is_empty y)) ∙ and_false (not (is_empty x))))
      where
        none : (o : Option ℕ) → is_defined_at [] z o ≡ false
        none None = refl
        none (Some k) = refl
    nothing k x y = refl

pub found_game : (names : Names) (t : Tree) → found names nothing_seen Anywhere 0 t ≡ first_fault names at_root t
found_game names t = found_first names t nothing_seen at_root root_agrees

-- what a walk over a game finds

found_fault : (ds : List Declaration) (t : Tree) (names : Names) (S : Seen) → names ≡ names_of ds t → S ≡ nothing_seen → found names S Anywhere 0 t ≡ first_scope_fault ds t
found_fault ds t names S e f = (λ i. found (e i) (f i) Anywhere 0 t) ∙ found_game (names_of ds t) t

pub no_game_fault : (ds : List Declaration) (t : Tree) (names : Names) (S : Seen) → names ≡ names_of ds t → S ≡ nothing_seen → found names S Anywhere 0 t ≡ None → first_scope_fault ds t ≡ None
no_game_fault ds t names S e f h = sym (found_fault ds t names S e f) ∙ h

pub game_refusal : (ds : List Declaration) (t : Tree) (names : Names) (S : Seen) (r : ScopeFault) → names ≡ names_of ds t → S ≡ nothing_seen → IsRefusalOf (found names S Anywhere 0 t) r → IsRefusalOf (first_scope_fault ds t) r
game_refusal ds t names S r e f h = subst (λ (o : Option (ℕ × Fault)). IsRefusalOf o r) (found_fault ds t names S e f) h

pub scoped_game : (ds : List Declaration) (t : Tree) (names : Names) (S : Seen) → names ≡ names_of ds t → S ≡ nothing_seen → found names S Anywhere 0 t ≡ None → IsScoped ds t
scoped_game ds t names S e f h = scoped_where_none (names_of ds t) at_root t (sym (found_game (names_of ds t) t) ∙ (sym (λ i. found (e i) (f i) Anywhere 0 t) ∙ h))

first : (ds : List Declaration) (t : Tree) (names : Names) (S : Seen) → names ≡ names_of ds t → S ≡ nothing_seen → (p : ℕ) (g : Fault) → found names S Anywhere 0 t ≡ Some (p, g) → IsFirstFault ds t p g
first ds t names S e f p g h = finds_first (names_of ds t) at_root t p g (sym (found_game (names_of ds t) t) ∙ (sym (λ i. found (e i) (f i) Anywhere 0 t) ∙ h))

pub refused_game : (ds : List Declaration) (t : Tree) (names : Names) (S : Seen) (r : ScopeFault) → names ≡ names_of ds t → S ≡ nothing_seen → IsRefusalOf (found names S Anywhere 0 t) r → IsFirstRefusal ds t r
refused_game ds t names S (refused.Unscoped p) e f h = first ds t names S e f p fault.Unscoped h
refused_game ds t names S (refused.TwoSites p) e f h = first ds t names S e f p fault.TwoSites h
refused_game ds t names S (refused.Channel p) e f h = first ds t names S e f p fault.Channel h
refused_game ds t names S (refused.Replications p) e f h = first ds t names S e f p fault.Replications h
refused_game ds t names S refused.OutOfMemory e f h = tt
