-- The tests of a node decide the rules.
use Rattle.std.proofs.Common.{◌≡◌, ◌≤◌, ◌<◌, ℕ, Bool, true, false, ◌&&◌, not, cond, List, [], ◌∷◌, ◌++◌, length, inl, inr, refl, ap, ap₂, subst, arith, nat_lt, Option, Some, None, eqb-true}
use Rattle.std.specs.Prelude.{◌==◌}
use Rattle.std.specs.List.{AllByRecursion, list_any, list_all}
use Rattle.std.proofs.lemmas.Bool.{and_parts, and_from, or_cases, or_left, or_right, both_ways, not-true, not_from_false, eq-eqb, ltb-true, ltb-false, lt-ltb, le-ltb}
use Rattle.cv_syntax_trees.specs.declared.head.Head.{Head}
use Rattle.cv_syntax_trees.specs.declared.head.Head.TheVariants.{Repl, Branch, Leaf, Read}
use Rattle.cv_syntax_trees.specs.Tree.{Tree, Node, same_tree}
use Rattle.cv_syntax_trees.specs.sites.Counting.{count}
use Rattle.cv_scope_rules.specs.declared.fault.Fault.{Fault}
use Rattle.cv_scope_rules.specs.declared.fault.Fault.TheVariants.{Unscoped, TwoSites, Channel, Replications}
use Rattle.cv_scope_rules.specs.declared.position.Position.{Position}
use Rattle.cv_scope_rules.specs.declared.position.Position.TheVariants.{OneCell}
use Rattle.cv_scope_rules.specs.Context.{Context}
use Rattle.cv_scope_rules.specs.Sites.{Site, SiteName, Variable, Channel as ChannelName, Label, InOneOf, named_here, channel_here}
use Rattle.cv_scope_rules.specs.Standing.{Standing}
use Rattle.cv_scope_rules.specs.Rules.{Names, IsAmong, InReach, is_index, ReadsInReach, IsInScope, AreAlike, MayFollow, MayStand, carries_current, IsFewIndices, BindsNewIndex, Obeys, Breaks}
use Rattle.cv_scope_rules.specs.Tests.{is_in_reach, reads_in_reach, is_in_scope, same_name, same_numbers, same_replications, is_in_one_of, are_alike, may_follow, may_stand, is_few_indices, binds_new_index, obeys, fault_of}
use Rattle.cv_scope_rules.proofs.Trees.{tree_same, same_tree_law}

-- reads

pub among_found : (t : Tree) (cs : List Tree) → list_any (same_tree t) cs ≡ true → IsAmong t cs
among_found t [] e = absurd (both_ways _ refl e)
among_found t (c ∷ cs) e = elim (or_cases (same_tree t c) (list_any (same_tree t) cs) e) [ inl k ↦ inl (tree_same t c k) | inr k ↦ inr (among_found t cs k) ]

pub among_tested : (t : Tree) (cs : List Tree) → IsAmong t cs → list_any (same_tree t) cs ≡ true
among_tested t [] m = absurd m
among_tested t (c ∷ cs) (inl k) = or_left (same_tree t c) _ (same_tree_law t c k)
among_tested t (c ∷ cs) (inr k) = or_right (same_tree t c) _ (among_tested t cs k)

pub reach_found : (Γ : Context) (t : Tree) → is_in_reach Γ t ≡ true → InReach Γ t
reach_found Γ t e = elim (or_cases (list_any (same_tree t) Γ.cells) (list_any (same_tree t) Γ.own) e) [ inl k ↦ inl (among_found t Γ.cells k) | inr k ↦ inr (among_found t Γ.own k) ]

pub reach_tested : (Γ : Context) (t : Tree) → InReach Γ t → is_in_reach Γ t ≡ true
reach_tested Γ t (inl k) = or_left (list_any (same_tree t) Γ.cells) _ (among_tested t Γ.cells k)
reach_tested Γ t (inr k) = or_right (list_any (same_tree t) Γ.cells) _ (among_tested t Γ.own k)

reads_found : (names : Names) (Γ : Context) (h : Head) (a b : Tree) → reads_in_reach names Γ h a b ≡ true → ReadsInReach names Γ h a b
reads_found names Γ (Leaf x) a b e =
    elim (or_cases (is_index Γ.replications x) _ e) [
      | inl k ↦ inl k
      | inr k ↦ elim (or_cases (names.constant x) _ k) [ inl m ↦ inr (inl m) | inr m ↦ inr (inr (reach_found Γ (Node (Leaf x) a b) m)) ]
    ]
reads_found names Γ (Read x) a b e = reach_found Γ (Node (Read x) a b) e
reads_found names Γ h a b e = tt

reads_tested : (names : Names) (Γ : Context) (h : Head) (a b : Tree) → ReadsInReach names Γ h a b → reads_in_reach names Γ h a b ≡ true
reads_tested names Γ (Leaf x) a b (inl k) = or_left (is_index Γ.replications x) _ k
reads_tested names Γ (Leaf x) a b (inr (inl k)) = or_right (is_index Γ.replications x) _ (or_left (names.constant x) _ k)
reads_tested names Γ (Leaf x) a b (inr (inr k)) = or_right (is_index Γ.replications x) _ (or_right (names.constant x) _ (reach_tested Γ (Node (Leaf x) a b) k))
reads_tested names Γ (Read x) a b m = reach_tested Γ (Node (Read x) a b) m
reads_tested names Γ h a b m = refl

scope_found : (names : Names) (w : Position) (Γ : Context) (h : Head) (a b : Tree) → is_in_scope names w Γ h a b ≡ true → IsInScope names w Γ h a b
scope_found names OneCell Γ h a b e = tt
scope_found names w Γ h a b e = reads_found names Γ h a b e

scope_tested : (names : Names) (w : Position) (Γ : Context) (h : Head) (a b : Tree) → IsInScope names w Γ h a b → is_in_scope names w Γ h a b ≡ true
scope_tested names OneCell Γ h a b m = refl
scope_tested names w Γ h a b m = reads_tested names Γ h a b m

-- sites

pub name_same : (a b : SiteName) → same_name a b ≡ true → a ≡ b
name_same (Variable x) (Variable y) e = ap Variable (eqb-true x y e)
name_same (ChannelName x) (ChannelName y) e = ap ChannelName (eqb-true x y e)
name_same (Label x) (Label y) e = ap Label (eqb-true x y e)
name_same (Variable x) b e = absurd (both_ways _ refl e)
name_same (ChannelName x) b e = absurd (both_ways _ refl e)
name_same (Label x) b e = absurd (both_ways _ refl e)

name_self : (a : SiteName) → same_name a a ≡ true
name_self (Variable x) = eq-eqb x x refl
name_self (ChannelName x) = eq-eqb x x refl
name_self (Label x) = eq-eqb x x refl

pub same_name_law : (a b : SiteName) → a ≡ b → same_name a b ≡ true
same_name_law a b e = subst (λ n. same_name a n ≡ true) e (name_self a)

numbers_same : (xs ys : List ℕ) → same_numbers xs ys ≡ true → xs ≡ ys
numbers_same [] [] e = refl
numbers_same (x ∷ xs) (y ∷ ys) e = let p = and_parts (x == y) _ e in ap₂ ◌∷◌ (eqb-true x y p.0) (numbers_same xs ys p.1)
numbers_same [] (y ∷ ys) e = absurd (both_ways _ refl e)
numbers_same (x ∷ xs) [] e = absurd (both_ways _ refl e)

numbers_self : (xs : List ℕ) → same_numbers xs xs ≡ true
numbers_self [] = refl
numbers_self (x ∷ xs) = and_from (x == x) _ (eq-eqb x x refl) (numbers_self xs)

replications_same : (xs ys : List (ℕ × ℕ)) → same_replications xs ys ≡ true → xs ≡ ys
replications_same [] [] e = refl
replications_same (x ∷ xs) (y ∷ ys) e =
    let p = and_parts ((x.0 == y.0) && (x.1 == y.1)) _ e in
    let q = and_parts (x.0 == y.0) _ p.0 in
    let here : x ≡ y = λ i. (eqb-true x.0 y.0 q.0 i, eqb-true x.1 y.1 q.1 i) in
    ap₂ ◌∷◌ here (replications_same xs ys p.1)
replications_same [] (y ∷ ys) e = absurd (both_ways _ refl e)
replications_same (x ∷ xs) [] e = absurd (both_ways _ refl e)

replications_self : (xs : List (ℕ × ℕ)) → same_replications xs xs ≡ true
replications_self [] = refl
replications_self (x ∷ xs) = and_from _ _ (and_from (x.0 == x.0) _ (eq-eqb x.0 x.0 refl) (eq-eqb x.1 x.1 refl)) (replications_self xs)

range_found : (r : ℕ × ℕ) (p : ℕ) → (not (nat_lt p r.0) && nat_lt p r.1) ≡ true → (r.0 ≤ p) × (p < r.1)
range_found r p e = let q = and_parts (not (nat_lt p r.0)) _ e in (ltb-false p r.0 (not-true _ q.0), ltb-true p r.1 q.1)

range_tested : (r : ℕ × ℕ) (p : ℕ) → (r.0 ≤ p) × (p < r.1) → (not (nat_lt p r.0) && nat_lt p r.1) ≡ true
range_tested r p m = and_from (not (nat_lt p r.0)) _ (not_from_false _ (le-ltb p r.0 m.0)) (lt-ltb p r.1 m.1)

pub ranges_found : (rs : List (ℕ × ℕ)) (p : ℕ) → is_in_one_of rs p ≡ true → InOneOf rs p
ranges_found [] p e = absurd (both_ways _ refl e)
ranges_found (r ∷ rs) p e = elim (or_cases (not (nat_lt p r.0) && nat_lt p r.1) (is_in_one_of rs p) e) [ inl k ↦ inl (range_found r p k) | inr k ↦ inr (ranges_found rs p k) ]

pub ranges_tested : (rs : List (ℕ × ℕ)) (p : ℕ) → InOneOf rs p → is_in_one_of rs p ≡ true
ranges_tested [] p m = absurd m
ranges_tested (r ∷ rs) p (inl k) = or_left (not (nat_lt p r.0) && nat_lt p r.1) _ (range_tested r p k)
ranges_tested (r ∷ rs) p (inr k) = or_right (not (nat_lt p r.0) && nat_lt p r.1) _ (ranges_tested rs p k)

pub alike_found : (e s : Site) → are_alike e s ≡ true → AreAlike e s
alike_found e s h = let p = and_parts (same_replications e.replications s.replications) _ h in (replications_same e.replications s.replications p.0, numbers_same e.types s.types p.1)

pub alike_tested : (e s : Site) → AreAlike e s → are_alike e s ≡ true
alike_tested e s m = and_from (same_replications e.replications s.replications) _ (subst (λ l. same_replications e.replications l ≡ true) m.0 (replications_self e.replications)) (subst (λ l. same_numbers e.types l ≡ true) m.1 (numbers_self e.types))

follow_found : (passed : List (ℕ × ℕ)) (s e : Site) → may_follow passed s e ≡ true → MayFollow passed s e
follow_found passed s e h n = elim (or_cases (not (same_name e.name s.name)) _ h) [
  | inl k ↦ absurd (both_ways _ (not-true _ k) (same_name_law e.name s.name n))
  | inr k ↦ let p = and_parts (is_in_one_of passed e.place) _ k in (ranges_found passed e.place p.0, alike_found e s p.1)
]

follow_tested : (passed : List (ℕ × ℕ)) (s e : Site) → MayFollow passed s e → may_follow passed s e ≡ true
follow_tested passed s e m = go (same_name e.name s.name) refl
  where
    go : (b : Bool) → same_name e.name s.name ≡ b → may_follow passed s e ≡ true
    go true k = let p = m (name_same e.name s.name k) in or_right (not (same_name e.name s.name)) _ (and_from (is_in_one_of passed e.place) _ (ranges_tested passed e.place p.0) (alike_tested e s p.1))
    go false k = or_left (not (same_name e.name s.name)) _ (not_from_false _ k)

pub follows_found : (passed : List (ℕ × ℕ)) (s : Site) (sites : List Site) → list_all (may_follow passed s) sites ≡ true → AllByRecursion (MayFollow passed s) sites
follows_found passed s [] h = tt
follows_found passed s (e ∷ sites) h = let p = and_parts (may_follow passed s e) _ h in (follow_found passed s e p.0, follows_found passed s sites p.1)

pub follows_tested : (passed : List (ℕ × ℕ)) (s : Site) (sites : List Site) → AllByRecursion (MayFollow passed s) sites → list_all (may_follow passed s) sites ≡ true
follows_tested passed s [] m = refl
follows_tested passed s (e ∷ sites) m = and_from (may_follow passed s e) _ (follow_tested passed s e m.0) (follows_tested passed s sites m.1)

pub stand_found : (passed : List (ℕ × ℕ)) (ss sites : List Site) → may_stand passed sites ss ≡ true → MayStand passed sites ss
stand_found passed [] sites h = tt
stand_found passed (s ∷ ss) sites h = let p = and_parts (list_all (may_follow passed s) sites) _ h in (follows_found passed s sites p.0, stand_found passed ss (sites ++ s ∷ []) p.1)

pub stand_tested : (passed : List (ℕ × ℕ)) (ss sites : List Site) → MayStand passed sites ss → may_stand passed sites ss ≡ true
stand_tested passed [] sites m = refl
stand_tested passed (s ∷ ss) sites m = and_from (list_all (may_follow passed s) sites) _ (follows_tested passed s sites m.0) (stand_tested passed ss (sites ++ s ∷ []) m.1)

-- replications

few_found : (h : Head) (a : Tree) → is_few_indices h a ≡ true → IsFewIndices h a
few_found Branch a e = let l = ltb-true (count a) 9 e in omega arith
few_found h a e = tt

few_tested : (h : Head) (a : Tree) → IsFewIndices h a → is_few_indices h a ≡ true
few_tested Branch a m = let l : count a < 9 = omega arith in lt-ltb (count a) 9 l
few_tested h a m = refl

index_found : (names : Names) (rs : List (ℕ × ℕ)) (h : Head) → binds_new_index names rs h ≡ true → BindsNewIndex names rs h
index_found names rs (Repl i n) e = let p = and_parts (not (is_index rs i)) _ e in (not-true _ p.0, not-true _ p.1)
index_found names rs h e = tt

index_tested : (names : Names) (rs : List (ℕ × ℕ)) (h : Head) → BindsNewIndex names rs h → binds_new_index names rs h ≡ true
index_tested names rs (Repl i n) m = and_from (not (is_index rs i)) _ (not_from_false _ m.0) (not_from_false _ m.1)
index_tested names rs h m = refl

-- rules

pub obeys_found : (names : Names) (s : Standing) (h : Head) (a b : Tree) (f : Fault) → obeys names s h a b f ≡ true → Obeys names s h a b f
obeys_found names s h a b Unscoped e = scope_found names s.position s.known h a b e
obeys_found names s h a b TwoSites e = stand_found s.passed (named_here s.known.replications s.place h a) s.sites e
obeys_found names s h a b Channel e = let p = and_parts (carries_current s.known.replications h a) _ e in (p.0, stand_found s.passed (channel_here s.known.replications s.place h a) s.sites p.1)
obeys_found names s h a b Replications e =
    let p = and_parts (nat_lt (length s.known.replications) 9) _ e in
    let q = and_parts (is_few_indices h a) _ p.1 in
    let l = ltb-true (length s.known.replications) 9 p.0 in
    (omega arith, few_found h a q.0, index_found names s.known.replications h q.1)

pub obeys_tested : (names : Names) (s : Standing) (h : Head) (a b : Tree) (f : Fault) → Obeys names s h a b f → obeys names s h a b f ≡ true
obeys_tested names s h a b Unscoped m = scope_tested names s.position s.known h a b m
obeys_tested names s h a b TwoSites m = stand_tested s.passed (named_here s.known.replications s.place h a) s.sites m
obeys_tested names s h a b Channel m = and_from (carries_current s.known.replications h a) _ m.0 (stand_tested s.passed (channel_here s.known.replications s.place h a) s.sites m.1)
obeys_tested names s h a b Replications m =
    let l : length s.known.replications < 9 = omega arith in
    and_from (nat_lt (length s.known.replications) 9) _ (lt-ltb (length s.known.replications) 9 l) (and_from (is_few_indices h a) _ (few_tested h a m.1) (index_tested names s.known.replications h m.2))

-- the first of four tests that fails
abbrev pub first_failing : Bool → Bool → Bool → Bool → Option Fault
first_failing u t c r = cond (not u) (Some Unscoped) (cond (not t) (Some TwoSites) (cond (not c) (Some Channel) (cond (not r) (Some Replications) None)))

all_pass : (u t c r : Bool) → first_failing u t c r ≡ None → (u ≡ true) × (t ≡ true) × (c ≡ true) × (r ≡ true)
all_pass false t c r e = absurd (cc)
all_pass true false c r e = absurd (cc)
all_pass true true false r e = absurd (cc)
all_pass true true true false e = absurd (cc)
all_pass true true true true e = (refl, refl, refl, refl)

none_fails : (u t c r : Bool) → u ≡ true → t ≡ true → c ≡ true → r ≡ true → first_failing u t c r ≡ None
none_fails true true true true e f g h = refl
none_fails false t c r e f g h = absurd (both_ways _ refl e)
none_fails true false c r e f g h = absurd (both_ways _ refl f)
none_fails true true false r e f g h = absurd (both_ways _ refl g)
none_fails true true true false e f g h = absurd (both_ways _ refl h)

module _ (names : Names) (s : Standing) (h : Head) (a b : Tree) where
  pub node_obeys : fault_of names s h a b ≡ None → (f : Fault) → Obeys names s h a b f
  node_obeys e f =
      let p = all_pass (obeys names s h a b Unscoped) (obeys names s h a b TwoSites) (obeys names s h a b Channel) (obeys names s h a b Replications) e in
      obeys_found names s h a b f (pick f p)
    where
      pick : (f : Fault) → (obeys names s h a b Unscoped ≡ true) × (obeys names s h a b TwoSites ≡ true) × (obeys names s h a b Channel ≡ true) × (obeys names s h a b Replications ≡ true) → obeys names s h a b f ≡ true
      pick Unscoped p = p.0
      pick TwoSites p = p.1
      pick Channel p = p.2
      pick Replications p = p.3

  pub no_node_fault : ((f : Fault) → Obeys names s h a b f) → fault_of names s h a b ≡ None
  no_node_fault m =
      none_fails (obeys names s h a b Unscoped) (obeys names s h a b TwoSites) (obeys names s h a b Channel) (obeys names s h a b Replications)
      (obeys_tested names s h a b Unscoped (m Unscoped)) (obeys_tested names s h a b TwoSites (m TwoSites)) (obeys_tested names s h a b Channel (m Channel)) (obeys_tested names s h a b Replications (m Replications))

  -- a test that fails breaks the rules
  broken : (f : Fault) → obeys names s h a b f ≡ false → Obeys names s h a b f → ⊥
  broken f e m = both_ways _ e (obeys_tested names s h a b f m)

  breaks_by : (u t c r : Bool) (f : Fault) → obeys names s h a b Unscoped ≡ u → obeys names s h a b TwoSites ≡ t → obeys names s h a b Channel ≡ c → obeys names s h a b Replications ≡ r → first_failing u t c r ≡ Some f → Breaks names s h a b f
  breaks_by false t c r f eu et ec er e = let d : Unscoped ≡ f = cc in subst (Breaks names s h a b) d (broken Unscoped eu)
  breaks_by true false c r f eu et ec er e = let d : TwoSites ≡ f = cc in subst (Breaks names s h a b) d (obeys_found names s h a b Unscoped eu, broken TwoSites et)
  breaks_by true true false r f eu et ec er e = let d : Channel ≡ f = cc in subst (Breaks names s h a b) d (obeys_found names s h a b Unscoped eu, obeys_found names s h a b TwoSites et, broken Channel ec)
  breaks_by true true true false f eu et ec er e = let d : Replications ≡ f = cc in subst (Breaks names s h a b) d (obeys_found names s h a b Unscoped eu, obeys_found names s h a b TwoSites et, obeys_found names s h a b Channel ec, broken Replications er)
  breaks_by true true true true f eu et ec er e = absurd (cc)

  pub node_breaks : (f : Fault) → fault_of names s h a b ≡ Some f → Breaks names s h a b f
  node_breaks f e = breaks_by (obeys names s h a b Unscoped) (obeys names s h a b TwoSites) (obeys names s h a b Channel) (obeys names s h a b Replications) f refl refl refl refl e

  -- a node that obeys all rules breaks none
  pub not_both_law : (f : Fault) → ((g : Fault) → Obeys names s h a b g) → Breaks names s h a b f → ⊥
  not_both_law Unscoped m k = k (m Unscoped)
  not_both_law TwoSites m k = k.1 (m TwoSites)
  not_both_law Channel m k = k.2 (m Channel)
  not_both_law Replications m k = k.3 (m Replications)
