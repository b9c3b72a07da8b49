-- The sites of a scoped tree: those of one name are alike, and an earlier one is in another branch.
use Rattle.std.proofs.Common.{◌≡◌, ℕ, ◌+◌, ◌≤◌, ◌<◌, Bool, true, false, cond, inl, inr, List, [], ◌∷◌, ◌++◌, refl, subst, arith}
use Rattle.std.specs.List.{AllByRecursion}
use Rattle.cv_syntax.specs.faults.Walk.{IsObeyed}
use Rattle.cv_syntax_trees.specs.declared.head.Head.{Head}
use Rattle.cv_syntax_trees.specs.declared.head.Head.TheVariants.{Repl, In, Event, New, Let, If, Find, Branch, Cons, Key, Call}
use Rattle.cv_syntax_trees.specs.Head.{weight}
use Rattle.cv_syntax_trees.specs.Tree.{Tree, Empty, Node, second, size}
use Rattle.cv_meaning.specs.Binders.{bound_names}
use Rattle.cv_scope_rules.specs.declared.fault.Fault.TheVariants as fault
use Rattle.cv_scope_rules.specs.declared.position.Position.{Position}
use Rattle.cv_scope_rules.specs.declared.position.Position.TheVariants.{Bodies, ElseBody, Guards, Guarded, Cells}
use Rattle.cv_scope_rules.specs.Context.{Context, first_position, second_position, first_context, second_context, item_context, rest_context, replications_below}
use Rattle.cv_scope_rules.specs.Ranges.{EndBy}
use Rattle.cv_scope_rules.specs.Rules.{Names, MayFollow, MayStand}
use Rattle.cv_syntax_trees.specs.Declarations.{Declaration}
use Rattle.cv_scope_rules.specs.Scope.{IsScoped, IsScopedAt, names_of}
use Rattle.cv_scope_rules.specs.Sites.{InOneOf, Site, Variable, Channel, channel_here, named_here, site_of, sites_from, sites_here, variable_sites}
use Rattle.cv_scope_rules.specs.Standing.{Standing, at_root, first_standing, second_standing, parts_ways, passed_second}
use Rattle.cv_scope_rules.specs.Branches.{AreInDifferentBranches, AreSitesAlike, HasOtherName, IsApartByBranches, Each, Pairs, IsLike}
use Rattle.cv_scope_rules.proofs.Pairs.{all_both, all_map, all_true, all_weaker, each_append, each_of, each_weaker, pairs_append, pairs_weaker}
use Rattle.cv_scope_rules.proofs.Ranges.{end_later, end_push}
use Rattle.cv_syntax_trees.proofs.lists.Each.{AllByRecursion_append, AllByRecursion_left, AllByRecursion_right}

-- ranges

pub in_more : (rs qs : List (ℕ × ℕ)) (p : ℕ) → InOneOf rs p → InOneOf (rs ++ qs) p
in_more [] qs p m = absurd m
in_more (r ∷ rs) qs p (inl k) = inl k
in_more (r ∷ rs) qs p (inr k) = inr (in_more rs qs p k)

pub in_last : (rs : List (ℕ × ℕ)) (r : ℕ × ℕ) (p : ℕ) → r.0 ≤ p → p < r.1 → InOneOf (rs ++ r ∷ []) p
in_last [] r p a b = inl (a, b)
in_last (q ∷ rs) r p a b = inr (in_last rs r p a b)

pub in_fewer : (rs : List (ℕ × ℕ)) (r : ℕ × ℕ) (p : ℕ) → p < r.0 → InOneOf (rs ++ r ∷ []) p → InOneOf rs p
in_fewer [] r p l (inl k) = absurd (omega (arith, k.0, l))
in_fewer [] r p l (inr k) = absurd k
in_fewer (q ∷ rs) r p l (inl k) = inl k
in_fewer (q ∷ rs) r p l (inr k) = inr (in_fewer rs r p l k)

pub past_end : (rs : List (ℕ × ℕ)) (q p : ℕ) → EndBy q rs → q ≤ p → InOneOf rs p → ⊥
past_end [] q p e l m = m
past_end (r ∷ rs) q p e l (inl k) = omega (arith, e.0, k.1, l)
past_end (r ∷ rs) q p e l (inr k) = past_end rs q p e.1 l k

-- replications on the way down

pub item_replications : (w : Position) (Γ : Context) → (item_context w Γ).replications ≡ Γ.replications
item_replications Bodies Γ = refl
item_replications ElseBody Γ = refl
item_replications w Γ = refl

pub rest_replications : (w : Position) (a : Tree) (Γ : Context) → (rest_context w a Γ).replications ≡ Γ.replications
rest_replications Guards a Γ = refl
rest_replications Guarded a Γ = refl
rest_replications Cells a Γ = refl
rest_replications w a Γ = refl

pub first_replications : (w : Position) (h : Head) (Γ : Context) → (first_context w h Γ).replications ≡ Γ.replications
first_replications w Cons Γ = item_replications w Γ
first_replications w h Γ = refl

pub second_replications : (w : Position) (h : Head) (a : Tree) (Γ : Context) → (second_context w h a Γ).replications ≡ replications_below h Γ.replications
second_replications w Cons a Γ = rest_replications w a Γ
second_replications w (Repl i n) a Γ = refl
second_replications w (In c) a Γ = refl
second_replications w (New x T) a Γ = refl
second_replications w (Let x T) a Γ = refl
second_replications w (Key x) a Γ = refl
second_replications w (Call x l) a Γ = refl
second_replications w (Event e) a Γ = refl
second_replications w If a Γ = refl
second_replications w Branch a Γ = refl
second_replications w h a Γ = refl

-- places

abbrev pub IsWithin : ℕ → ℕ → Site → Type 0
IsWithin p q e = (p ≤ e.place) × (e.place < q)

variables_within : (rs : List (ℕ × ℕ)) (p q : ℕ) (binders : Tree) → p < q → AllByRecursion (IsWithin p q) (variable_sites rs p binders)
variables_within rs p q binders l = all_map (IsWithin p q) (λ x. site_of rs p (Variable x)) (bound_names binders) (λ x. (omega arith, l))

pub here_within : (rs : List (ℕ × ℕ)) (p : ℕ) (h : Head) (a : Tree) → AllByRecursion (IsWithin p (p + weight h)) (sites_here rs p h a)
here_within rs p (New x T) a = ((omega arith, omega arith), tt)
here_within rs p (Let x T) a = ((omega arith, omega arith), tt)
here_within rs p (Key x) a = ((omega arith, omega arith), tt)
here_within rs p (Call x l) a = ((omega arith, omega arith), tt)
here_within rs p (In c) a = AllByRecursion_append (IsWithin p (p + 1)) (variable_sites rs p (second a)) (channel_here rs p (In c) a) (variables_within rs p (p + 1) (second a) (omega arith)) ((omega arith, omega arith), tt)
here_within rs p Branch a = AllByRecursion_append (IsWithin p (p + 1)) (variable_sites rs p a) [] (variables_within rs p (p + 1) a (omega arith)) tt
here_within rs p (Find l) a = ((omega arith, omega arith), tt)
here_within rs p h a = tt

within_wider : (p q r s : ℕ) (xs : List Site) → r ≤ p → q ≤ s → AllByRecursion (IsWithin p q) xs → AllByRecursion (IsWithin r s) xs
within_wider p q r s xs l m a = all_weaker (IsWithin p q) (IsWithin r s) xs (λ e b. (omega (arith, b.0, l), omega (arith, b.1, m))) a

pub tree_within : (rs : List (ℕ × ℕ)) (p : ℕ) (t : Tree) → AllByRecursion (IsWithin p (p + size t)) (sites_from rs p t)
unfolding sites_from size
tree_within rs p Empty = tt
tree_within rs p (Node h a b) =
    let q = p + (weight h + size a + size b) in
    AllByRecursion_append (IsWithin p q) (sites_here rs p h a) (sites_from rs (p + weight h) a ++ sites_from (replications_below h rs) (p + weight h + size a) b)
    (within_wider p (p + weight h) p q (sites_here rs p h a) (omega arith) (omega arith) (here_within rs p h a))
    (AllByRecursion_append (IsWithin p q) (sites_from rs (p + weight h) a) (sites_from (replications_below h rs) (p + weight h + size a) b)
    (within_wider (p + weight h) (p + weight h + size a) p q (sites_from rs (p + weight h) a) (omega arith) (omega arith) (tree_within rs (p + weight h) a))
    (within_wider (p + weight h + size a) (p + weight h + size a + size b) p q (sites_from (replications_below h rs) (p + weight h + size a) b) (omega arith) (omega arith) (tree_within (replications_below h rs) (p + weight h + size a) b)))

-- relations of two sites, the earlier one first

abbrev pub IsApart : List (ℕ × ℕ) → Site → Site → Type 0
IsApart passed e s = MayFollow passed s e

pub apart_like : (passed : List (ℕ × ℕ)) (e s : Site) → IsApart passed e s → IsLike e s
apart_like passed e s m n = (m n).1

-- sites that may stand are apart from the earlier ones and from each other
pub stand_apart : (passed : List (ℕ × ℕ)) (ss sites : List Site) → MayStand passed sites ss → Each (IsApart passed) sites ss × Pairs (IsApart passed) ss
stand_apart passed [] sites m = (all_true (λ e. AllByRecursion (IsApart passed e) []) sites (λ e. tt), tt)
stand_apart passed (s ∷ ss) sites m =
    let r = stand_apart passed ss (sites ++ s ∷ []) m.1 in
    let left = AllByRecursion_left (λ e. AllByRecursion (IsApart passed e) ss) sites (s ∷ []) r.0 in
    let right = AllByRecursion_right (λ e. AllByRecursion (IsApart passed e) ss) sites (s ∷ []) r.0 in
    (all_both (MayFollow passed s) (λ e. AllByRecursion (IsApart passed e) ss) (λ e. AllByRecursion (IsApart passed e) (s ∷ ss)) sites (λ e x y. (x, y)) m.0 left, (right.0, r.1))

abbrev IsNoChannel : Site → Type 0
IsNoChannel e = (c : ℕ) → e.name ≡ Channel c → ⊥

named_no_channels : (rs : List (ℕ × ℕ)) (p : ℕ) (h : Head) (a : Tree) → AllByRecursion IsNoChannel (named_here rs p h a)
named_no_channels rs p (New x T) a = (λ c e. absurd (cc), tt)
named_no_channels rs p (Let x T) a = (λ c e. absurd (cc), tt)
named_no_channels rs p (Key x) a = (λ c e. absurd (cc), tt)
named_no_channels rs p (Call x l) a = (λ c e. absurd (cc), tt)
named_no_channels rs p (In d) a = all_map IsNoChannel (λ x. site_of rs p (Variable x)) (bound_names (second a)) (λ x c e. absurd (cc))
named_no_channels rs p Branch a = all_map IsNoChannel (λ x. site_of rs p (Variable x)) (bound_names a) (λ x c e. absurd (cc))
named_no_channels rs p (Find l) a = (λ c e. absurd (cc), tt)
named_no_channels rs p h a = tt

channel_apart : (passed rs : List (ℕ × ℕ)) (p : ℕ) (h : Head) (a : Tree) (e : Site) → IsNoChannel e → AllByRecursion (IsApart passed e) (channel_here rs p h a)
channel_apart passed rs p (In c) a e n = (λ f. absurd (n c f), tt)
channel_apart passed rs p h a e n = tt

-- the sites of a node
pub here_apart : (names : Names) (s : Standing) (h : Head) (a b : Tree) → MayStand s.passed s.sites (named_here s.known.replications s.place h a) → MayStand s.passed s.sites (channel_here s.known.replications s.place h a) → Each (IsApart s.passed) s.sites (sites_here s.known.replications s.place h a) × Pairs (IsApart s.passed) (sites_here s.known.replications s.place h a)
here_apart names s h a b m n =
    let named = named_here s.known.replications s.place h a in
    let channel = channel_here s.known.replications s.place h a in
    let x = stand_apart s.passed named s.sites m in
    let y = stand_apart s.passed channel s.sites n in
    let cross = all_weaker IsNoChannel (λ e. AllByRecursion (IsApart s.passed e) channel) named (channel_apart s.passed s.known.replications s.place h a) (named_no_channels s.known.replications s.place h a) in
    (each_append (IsApart s.passed) s.sites named channel x.0 y.0, pairs_append (IsApart s.passed) named channel x.1 y.1 cross)

-- what holds of the sites and the branches before a node
pub record IsBefore (s : Standing) : Type 0 where
  pub sites : AllByRecursion (λ (e : Site). e.place < s.place) s.sites
  pub passed : EndBy s.place s.passed

sites_before : (p q r : ℕ) (xs : List Site) → AllByRecursion (IsWithin p q) xs → q ≤ r → AllByRecursion (λ (e : Site). e.place < r) xs
sites_before p q r xs a l = all_weaker (IsWithin p q) (λ (e : Site). e.place < r) xs (λ e b. omega (arith, b.1, l)) a

still_before : (p q : ℕ) (xs : List Site) → AllByRecursion (λ (e : Site). e.place < p) xs → p ≤ q → AllByRecursion (λ (e : Site). e.place < q) xs
still_before p q xs a l = all_weaker (λ (e : Site). e.place < p) (λ (e : Site). e.place < q) xs (λ e b. omega (arith, b, l)) a

pub before_first : (s : Standing) (h : Head) (a : Tree) → IsBefore s → IsBefore (first_standing s h a)
before_first s h a m = record {
  sites = AllByRecursion_append (λ (e : Site). e.place < s.place + weight h) s.sites (sites_here s.known.replications s.place h a) (still_before s.place (s.place + weight h) s.sites m.sites (omega arith)) (sites_before s.place (s.place + weight h) (s.place + weight h) (sites_here s.known.replications s.place h a) (here_within s.known.replications s.place h a) (omega arith));
  passed = end_later s.place (s.place + weight h) s.passed m.passed (omega arith);
}

pub before_second : (s : Standing) (h : Head) (a : Tree) → IsBefore s → IsBefore (second_standing s h a)
before_second s h a m =
    let here = sites_here s.known.replications s.place h a in
    let below = sites_from s.known.replications (s.place + weight h) a in
    let q = s.place + weight h + size a in
    record {
      sites = AllByRecursion_append (λ (e : Site). e.place < q) s.sites (here ++ below) (still_before s.place q s.sites m.sites (omega arith))
          (AllByRecursion_append (λ (e : Site). e.place < q) here below
          (sites_before s.place (s.place + weight h) q here (here_within s.known.replications s.place h a) (omega arith))
          (sites_before (s.place + weight h) q q below (tree_within s.known.replications (s.place + weight h) a) (omega arith)));
      passed = go (parts_ways s.position h);
    }
  where
    go : (b : Bool) → EndBy (s.place + weight h + size a) (cond b (s.passed ++ (s.place + weight h, s.place + weight h + size a) ∷ []) s.passed)
    go true = end_push (s.place + weight h + size a) (s.place + weight h) (s.place + weight h + size a) s.passed (end_later s.place (s.place + weight h + size a) s.passed m.passed (omega arith)) (omega arith)
    go false = end_later s.place (s.place + weight h + size a) s.passed m.passed (omega arith)

-- what lies before the first child in a branch that is passed does so for the node
passed_before : (s : Standing) (h : Head) (a : Tree) (p : ℕ) → p < s.place + weight h → InOneOf (passed_second s h a) p → InOneOf s.passed p
passed_before s h a p l m = go (parts_ways s.position h) m
  where
    go : (b : Bool) → InOneOf (cond b (s.passed ++ (s.place + weight h, s.place + weight h + size a) ∷ []) s.passed) p → InOneOf s.passed p
    go true n = in_fewer s.passed (s.place + weight h, s.place + weight h + size a) p l n
    go false n = n

-- the sites of a scoped tree are apart from those before it, and alike to each other
pub tree_apart : (names : Names) (s : Standing) (t : Tree) → IsBefore s → IsScopedAt names s t → Each (IsApart s.passed) s.sites (sites_from s.known.replications s.place t) × Pairs IsLike (sites_from s.known.replications s.place t)
unfolding IsObeyed sites_from
tree_apart names s Empty m i = (all_true (λ e. AllByRecursion (IsApart s.passed e) []) s.sites (λ e. tt), tt)
tree_apart names s (Node h a b) m i =
    let rs = s.known.replications in
    let p = s.place in
    let here = sites_here rs p h a in
    let left = sites_from rs (p + weight h) a in
    let right = sites_from (replications_below h rs) (p + weight h + size a) b in
    let node = here_apart names s h a b (i.0 fault.TwoSites) (i.0 fault.Channel).1 in
    let f = tree_apart names (first_standing s h a) a (before_first s h a m) i.1 in
    let g = tree_apart names (second_standing s h a) b (before_second s h a m) i.2 in
    let frs = first_replications s.position h s.known in
    let srs = second_replications s.position h a s.known in
    let f0 : Each (IsApart s.passed) (s.sites ++ here) left = subst (λ l. Each (IsApart s.passed) (s.sites ++ here) (sites_from l (p + weight h) a)) frs f.0 in
    let f1 : Pairs IsLike left = subst (λ l. Pairs IsLike (sites_from l (p + weight h) a)) frs f.1 in
    let g0 : Each (IsApart (passed_second s h a)) (s.sites ++ (here ++ left)) right = subst (λ l. Each (IsApart (passed_second s h a)) (s.sites ++ (here ++ left)) (sites_from l (p + weight h + size a) b)) srs g.0 in
    let g1 : Pairs IsLike right = subst (λ l. Pairs IsLike (sites_from l (p + weight h + size a) b)) srs g.1 in
    let old = AllByRecursion_left (λ e. AllByRecursion (IsApart (passed_second s h a) e) right) s.sites (here ++ left) g0 in
    let new = AllByRecursion_right (λ e. AllByRecursion (IsApart (passed_second s h a) e) right) s.sites (here ++ left) g0 in
    let old' : Each (IsApart s.passed) s.sites right = each_of (λ (e : Site). e.place < p) (IsApart (passed_second s h a)) (IsApart s.passed) s.sites right (λ e l q r n. let x = r n in (passed_before s h a e.place (omega (arith, q)) x.0, x.1)) m.sites old in (
      each_append (IsApart s.passed) s.sites here (left ++ right) node.0 (each_append (IsApart s.passed) s.sites left right (AllByRecursion_left (λ e. AllByRecursion (IsApart s.passed e) left) s.sites here f0) old'),
      pairs_append IsLike here (left ++ right) (pairs_weaker (IsApart s.passed) IsLike here (apart_like s.passed) node.1)
          (pairs_append IsLike left right f1 g1 (each_weaker (IsApart (passed_second s h a)) IsLike left right (apart_like (passed_second s h a)) (AllByRecursion_right (λ e. AllByRecursion (IsApart (passed_second s h a) e) right) here left new)))
          (each_append IsLike here left right (each_weaker (IsApart s.passed) IsLike here left (apart_like s.passed) (AllByRecursion_right (λ e. AllByRecursion (IsApart s.passed e) left) s.sites here f0))
          (each_weaker (IsApart (passed_second s h a)) IsLike here right (apart_like (passed_second s h a)) (AllByRecursion_left (λ e. AllByRecursion (IsApart (passed_second s h a) e) right) here left new))),
    )

-- different branches

-- a site at or behind the place is in no branch that is passed
other_name : (s : Standing) (e l : Site) → IsBefore s → s.place ≤ e.place → IsApart s.passed e l → HasOtherName e l
other_name s e l m p r n = past_end s.passed s.place e.place m.passed p (r n).0

pub tree_branches : (names : Names) (s : Standing) (t : Tree) → IsBefore s → IsScopedAt names s t → AreInDifferentBranches s.position s.known.replications s.place t
unfolding IsObeyed AreInDifferentBranches
tree_branches names s Empty m i = tt
tree_branches names s (Node h a b) m i =
    let rs = s.known.replications in
    let p = s.place in
    let here = sites_here rs p h a in
    let left = sites_from rs (p + weight h) a in
    let right = sites_from (replications_below h rs) (p + weight h + size a) b in
    let f = tree_apart names (first_standing s h a) a (before_first s h a m) i.1 in
    let g = tree_apart names (second_standing s h a) b (before_second s h a m) i.2 in
    let frs = first_replications s.position h s.known in
    let srs = second_replications s.position h a s.known in
    let f0 : Each (IsApart s.passed) (s.sites ++ here) left = subst (λ l. Each (IsApart s.passed) (s.sites ++ here) (sites_from l (p + weight h) a)) frs f.0 in
    let g0 : Each (IsApart (passed_second s h a)) (s.sites ++ (here ++ left)) right = subst (λ l. Each (IsApart (passed_second s h a)) (s.sites ++ (here ++ left)) (sites_from l (p + weight h + size a) b)) srs g.0 in
    let new = AllByRecursion_right (λ e. AllByRecursion (IsApart (passed_second s h a) e) right) s.sites (here ++ left) g0 in
    let within = here_within rs p h a in
    let h0 = each_of (IsWithin p (p + weight h)) (IsApart s.passed) HasOtherName here left (λ e l q r. other_name s e l m q.0 r) within (AllByRecursion_right (λ e. AllByRecursion (IsApart s.passed e) left) s.sites here f0) in
    let h1 = each_of (IsWithin p (p + weight h)) (IsApart (passed_second s h a)) HasOtherName here right (λ e l q r n. past_end s.passed p e.place m.passed q.0 (passed_before s h a e.place q.1 (r n).0)) within (AllByRecursion_left (λ e. AllByRecursion (IsApart (passed_second s h a) e) right) here left new) in (
      each_append HasOtherName here left right h0 h1,
      (λ d. each_of (IsWithin (p + weight h) (p + weight h + size a)) (IsApart (passed_second s h a)) HasOtherName left right (λ e l q r n. past_end s.passed p e.place m.passed (omega (arith, q.0)) (subst (λ c. InOneOf (cond c (s.passed ++ (s.place + weight h, s.place + weight h + size a) ∷ []) s.passed) e.place) d (r n).0)) (tree_within rs (p + weight h) a) (AllByRecursion_right (λ e. AllByRecursion (IsApart (passed_second s h a) e) right) here left new)),
      subst (λ l. AreInDifferentBranches (first_position s.position h) l (p + weight h) a) frs (tree_branches names (first_standing s h a) a (before_first s h a m) i.1),
      subst (λ l. AreInDifferentBranches (second_position s.position h) l (p + weight h + size a) b) srs (tree_branches names (second_standing s h a) b (before_second s h a m) i.2),
    )

root_before : IsBefore at_root
root_before = record { sites = tt; passed = tt }

pub game_alike : (ds : List Declaration) (game : Tree) → IsScoped ds game → AreSitesAlike game
game_alike ds game i = (tree_apart (names_of ds game) at_root game root_before i).1

pub game_branches : (ds : List Declaration) (game : Tree) → IsScoped ds game → IsApartByBranches game
game_branches ds game i = tree_branches (names_of ds game) at_root game root_before i
