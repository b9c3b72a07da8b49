-- A tree whose nodes keep the rules, and whose sites are alike and in different branches, is in array scope.
use Rattle.std.proofs.Common.{◌≡◌, ℕ, Bool, true, false, cond, List, [], ◌∷◌, ◌++◌, refl, sym, subst}
use Rattle.std.specs.List.{AllByRecursion}
use Rattle.cv_syntax.specs.faults.Walk.{IsObeyed}
use Rattle.cv_syntax_trees.specs.declared.head.Head.{Head}
use Rattle.cv_syntax_trees.specs.declared.head.Head.TheVariants.{In}
use Rattle.cv_syntax_trees.specs.Declarations.{Declaration}
use Rattle.cv_syntax_trees.specs.Tree.{Tree, Empty, Node, first_place, second_place}
use Rattle.cv_scope_rules.specs.declared.fault.Fault.{Fault}
use Rattle.cv_scope_rules.specs.declared.fault.Fault.TheVariants as fault
use Rattle.cv_scope_rules.specs.declared.position.Position.TheVariants.{Anywhere}
use Rattle.cv_scope_rules.specs.Branches.{AreInDifferentBranches, AreSitesAlike, Each, HasOtherName, IsApartByBranches, IsLike, Pairs}
use Rattle.cv_scope_rules.specs.Context.{nothing_known, replications_below}
use Rattle.cv_scope_rules.specs.Rules.{MayStand, Names, Obeys}
use Rattle.cv_scope_rules.specs.Scope.{IsScoped, IsScopedAt, names_of}
use Rattle.cv_scope_rules.specs.Sites.{Site, channel_here, named_here, sites_from, sites_here}
use Rattle.cv_scope_rules.specs.Standing.{Standing, at_root, first_standing, parts_ways, passed_second, second_standing}
use Rattle.cv_scope_rules.proofs.Apart.{IsApart, IsWithin, first_replications, in_last, in_more, second_replications, tree_within}
use Rattle.cv_scope_rules.proofs.Pairs.{all_weaker, each_weaker}
use Rattle.cv_context_laws.specs.shape.Rules.{AreKept, NodeKeeps}
use Rattle.cv_scope_runs.proofs.FreshRuns.{pairwise_left, pairwise_right}
use Rattle.cv_syntax_trees.proofs.lists.Each.{AllByRecursion_append, AllByRecursion_left, AllByRecursion_right}

-- parts of relations of lists

pub pairs_each : {A : Type 0} (R : A → A → Type 0) (xs ys : List A) → Pairs R (xs ++ ys) → Each R xs ys
pairs_each R [] ys h = tt
pairs_each R (x ∷ xs) ys h = (AllByRecursion_right (R x) xs ys h.0, pairs_each R xs ys h.1)

pub each_left : {A : Type 0} (R : A → A → Type 0) (xs ys zs : List A) → Each R xs (ys ++ zs) → Each R xs ys
each_left R xs ys zs h = all_weaker (λ x. AllByRecursion (R x) (ys ++ zs)) (λ x. AllByRecursion (R x) ys) xs (λ x k. AllByRecursion_left (R x) ys zs k) h

pub each_right : {A : Type 0} (R : A → A → Type 0) (xs ys zs : List A) → Each R xs (ys ++ zs) → Each R xs zs
each_right R xs ys zs h = all_weaker (λ x. AllByRecursion (R x) (ys ++ zs)) (λ x. AllByRecursion (R x) zs) xs (λ x k. AllByRecursion_right (R x) ys zs k) h

each_first : {A : Type 0} (R : A → A → Type 0) (xs : List A) (y : A) (ys : List A) → Each R xs (y ∷ ys) → AllByRecursion (λ x. R x y) xs
each_first R xs y ys h = all_weaker (λ x. AllByRecursion (R x) (y ∷ ys)) (λ x. R x y) xs (λ x k. k.0) h

each_rest : {A : Type 0} (R : A → A → Type 0) (xs : List A) (y : A) (ys : List A) → Each R xs (y ∷ ys) → Each R xs ys
each_rest R xs y ys h = all_weaker (λ x. AllByRecursion (R x) (y ∷ ys)) (λ x. AllByRecursion (R x) ys) xs (λ x k. k.1) h

-- sites of other names may follow

other_apart : (passed : List (ℕ × ℕ)) (e s : Site) → HasOtherName e s → IsApart passed e s
other_apart passed e s h q = absurd (h q)

may_stand : (passed : List (ℕ × ℕ)) (sites ss : List Site) → Each (IsApart passed) sites ss → Pairs HasOtherName ss → MayStand passed sites ss
may_stand passed sites [] e o = tt
may_stand passed sites (s ∷ ss) e o = (
  each_first (IsApart passed) sites s ss e,
  may_stand passed (sites ++ s ∷ []) ss
      (AllByRecursion_append (λ x. AllByRecursion (IsApart passed x) ss) sites (s ∷ []) (each_rest (IsApart passed) sites s ss e) (all_weaker (HasOtherName s) (IsApart passed s) ss (other_apart passed s) o.0, tt)) o.1,
)

channel_own : (rs : List (ℕ × ℕ)) (p : ℕ) (h : Head) (a : Tree) → Pairs HasOtherName (channel_here rs p h a)
channel_own rs p (In c) a = (tt, tt)
channel_own rs p h a = tt

more_passed : (passed : List (ℕ × ℕ)) (r : ℕ × ℕ) (c : Bool) (e s : Site) → IsApart passed e s → IsApart (cond c (passed ++ r ∷ []) passed) e s
more_passed passed r false e s h = h
more_passed passed r true e s h = λ q. let k = h q in (in_more passed (r ∷ []) e.place k.0, k.1)

-- sites of the first child, as the second sees them
across : (passed : List (ℕ × ℕ)) (from to : ℕ) (c : Bool) (e s : Site) → IsWithin from to e → IsLike e s → (c ≡ false → HasOtherName e s) → IsApart (cond c (passed ++ (from, to) ∷ []) passed) e s
across passed from to true e s w l o = λ q. (in_last passed (from, to) e.place w.0 w.1, l q)
across passed from to false e s w l o = other_apart passed e s (o refl)

across_all : (passed : List (ℕ × ℕ)) (from to : ℕ) (c : Bool) (xs ys : List Site) → AllByRecursion (IsWithin from to) xs → Each IsLike xs ys → (c ≡ false → Each HasOtherName xs ys) → Each (IsApart (cond c (passed ++ (from, to) ∷ []) passed)) xs ys
across_all passed from to c [] ys w l o = tt
across_all passed from to c (x ∷ xs) ys w l o = (row ys l.0 (λ e. (o e).0), across_all passed from to c xs ys w.1 l.1 (λ e. (o e).1))
  where
    row : (ys : List Site) → AllByRecursion (IsLike x) ys → (c ≡ false → AllByRecursion (HasOtherName x) ys) → AllByRecursion (IsApart (cond c (passed ++ (from, to) ∷ []) passed) x) ys
    row [] l o = tt
    row (y ∷ ys) l o = (across passed from to c x y w.0 l.0 (λ e. (o e).0), row ys l.1 (λ e. (o e).1))

pub tree_scoped : (names : Names) (s : Standing) (t : Tree) → AreKept names s.position s.known s.place t → Each (IsApart s.passed) s.sites (sites_from s.known.replications s.place t)
    → AreInDifferentBranches s.position s.known.replications s.place t → Pairs IsLike (sites_from s.known.replications s.place t) → IsScopedAt names s t
unfolding IsObeyed AreKept sites_from AreInDifferentBranches
tree_scoped names s Empty k e d l = tt
tree_scoped names s (Node h a b) k e d l =
    let rs = s.known.replications in
    let named = named_here rs s.place h a in
    let channel = channel_here rs s.place h a in
    let here = sites_here rs s.place h a in
    let left = sites_from rs (first_place s.place h) a in
    let right = sites_from (replications_below h rs) (second_place s.place h a) b in
    let frs = first_replications s.position h s.known in
    let srs = second_replications s.position h a s.known in
    let old = each_left (IsApart s.passed) s.sites here (left ++ right) e in
    let below = each_right (IsApart s.passed) s.sites here (left ++ right) e in
    let pairs = pairwise_right IsLike here (left ++ right) l in
    let apart = each_weaker HasOtherName (IsApart s.passed) here (left ++ right) (other_apart s.passed) d.0 in
    let passed = passed_second s h a in
    let first = AllByRecursion_append (λ x. AllByRecursion (IsApart s.passed x) left) s.sites here (each_left (IsApart s.passed) s.sites left right below) (each_left (IsApart s.passed) here left right apart) in
    let second =
    AllByRecursion_append (λ x. AllByRecursion (IsApart passed x) right) s.sites (here ++ left)
    (each_weaker (IsApart s.passed) (IsApart passed) s.sites right (more_passed s.passed (first_place s.place h, second_place s.place h a) (parts_ways s.position h)) (each_right (IsApart s.passed) s.sites left right below))
    (AllByRecursion_append (λ x. AllByRecursion (IsApart passed x) right) here left
    (each_weaker (IsApart s.passed) (IsApart passed) here right (more_passed s.passed (first_place s.place h, second_place s.place h a) (parts_ways s.position h)) (each_right (IsApart s.passed) here left right apart))
    (across_all s.passed (first_place s.place h) (second_place s.place h a) (parts_ways s.position h) left right (tree_within rs (first_place s.place h) a) (pairs_each IsLike left right pairs) d.1)) in (
      obeys k.0 (each_left (IsApart s.passed) s.sites named channel old) (each_right (IsApart s.passed) s.sites named channel old),
      tree_scoped names (first_standing s h a) a k.1 (subst (λ qs. Each (IsApart s.passed) (s.sites ++ here) (sites_from qs (first_place s.place h) a)) (sym frs) first)
          (subst (λ qs. AreInDifferentBranches (first_standing s h a).position qs (first_place s.place h) a) (sym frs) d.2) (subst (λ qs. Pairs IsLike (sites_from qs (first_place s.place h) a)) (sym frs) (pairwise_left IsLike left right pairs)),
      tree_scoped names (second_standing s h a) b k.2 (subst (λ qs. Each (IsApart passed) (s.sites ++ (here ++ left)) (sites_from qs (second_place s.place h a) b)) (sym srs) second)
          (subst (λ qs. AreInDifferentBranches (second_standing s h a).position qs (second_place s.place h a) b) (sym srs) d.3) (subst (λ qs. Pairs IsLike (sites_from qs (second_place s.place h a) b)) (sym srs) (pairwise_right IsLike left right pairs)),
    )
  where
    obeys : NodeKeeps names s.position s.known s.place h a b → Each (IsApart s.passed) s.sites (named_here s.known.replications s.place h a) → Each (IsApart s.passed) s.sites (channel_here s.known.replications s.place h a) → (f : Fault) → Obeys names s h a b f
    obeys k n c fault.Unscoped = k.scope
    obeys k n c fault.TwoSites = may_stand s.passed s.sites (named_here s.known.replications s.place h a) n k.own
    obeys k n c fault.Channel = (k.carries, may_stand s.passed s.sites (channel_here s.known.replications s.place h a) c (channel_own s.known.replications s.place h a))
    obeys k n c fault.Replications = (k.few, k.few_indices, k.index)

pub game_scoped : (ds : List Declaration) (game : Tree) → AreKept (names_of ds game) Anywhere nothing_known 0 game → AreSitesAlike game → IsApartByBranches game → IsScoped ds game
game_scoped ds game k l d = tree_scoped (names_of ds game) at_root game k tt d l
