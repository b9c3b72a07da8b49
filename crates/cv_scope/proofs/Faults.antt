-- The first fault of a node, test by test.
use Rattle.std.proofs.Common.{◌≡◌, ℕ, Bool, true, false, ◌&&◌, List, [], ◌∷◌, ◌++◌, map, refl, ap, ap₂, sym, ◌∙◌, Option, Some, None}
use Rattle.cv_pool.specs.KindTree.{KindTree}
use Rattle.cv_syntax_trees.specs.declared.head.Head.{Head}
use Rattle.cv_syntax_trees.specs.declared.head.Head.TheVariants.{In, New, Let, Find, Branch, Key, Call}
use Rattle.cv_syntax_trees.specs.Tree.{Tree, second}
use Rattle.cv_meaning.specs.Binders.{bound_names}
use Rattle.cv_scope_rules.specs.declared.fault.Fault.TheVariants as fault
use Rattle.cv_scope.specs.declared.state.State.{State}
use Rattle.cv_scope.specs.Held.{OnlySites, last_held}
use Rattle.cv_scope.specs.Seen.{may_follow_last, may_stand_last, with_site, with_sites}
use Rattle.cv_scope_rules.specs.Sites.{Site, SiteName, Variable, Channel, Label, channel_here, named_here, sites_here, site_of}
use Rattle.cv_scope_rules.proofs.Decided.{first_failing}
use Rattle.cv_scope.proofs.Noting.{above_again}

pub sites_append : (last : SiteName → Option Site) (xs ys : List Site) → with_sites last (xs ++ ys) ≡ with_sites (with_sites last xs) ys
sites_append last [] ys = refl
sites_append last (x ∷ xs) ys = sites_append (with_site last x) xs ys

-- variables and labels are no channels
variables_keep : (last : SiteName → Option Site) (rs : List (ℕ × ℕ)) (p : ℕ) (xs : List ℕ) (c : ℕ) → with_sites last (map (λ x. site_of rs p (Variable x)) xs) (Channel c) ≡ last (Channel c)
variables_keep last rs p [] c = refl
variables_keep last rs p (x ∷ xs) c = variables_keep (with_site last (site_of rs p (Variable x))) rs p xs c

named_keep : (last : SiteName → Option Site) (rs : List (ℕ × ℕ)) (p : ℕ) (h : Head) (a : Tree) (c : ℕ) → with_sites last (named_here rs p h a) (Channel c) ≡ last (Channel c)
named_keep last rs p (New x T) a c = refl
named_keep last rs p (Let x T) a c = refl
named_keep last rs p (Key x) a c = refl
named_keep last rs p (Call x l) a c = refl
named_keep last rs p (In d) a c = variables_keep last rs p (bound_names (second a)) c
named_keep last rs p Branch a c = variables_keep last rs p (bound_names a) c
named_keep last rs p (Find l) a c = refl
named_keep last rs p h a c = refl

channel_by : (passed rs : List (ℕ × ℕ)) (p : ℕ) (h : Head) (a : Tree) (last new : SiteName → Option Site) → ((c : ℕ) → new (Channel c) ≡ last (Channel c)) → may_stand_last passed new (channel_here rs p h a) ≡ may_stand_last passed last (channel_here rs p h a)
channel_by passed rs p (In c) a last new e = ap (λ o. may_follow_last passed (record { name = Channel c; replications = rs; types = Rattle.cv_scope_rules.specs.Sites.bound_types (second a); place = p }) o && true) (e c)
channel_by passed rs p h a last new e = refl

-- the site of a channel may stand behind those that were there before the node's variables
pub channel_same : (passed passed' rs rs' : List (ℕ × ℕ)) (p : ℕ) (h : Head) (a : Tree) (last new : SiteName → Option Site) → passed' ≡ passed → rs' ≡ rs → new ≡ with_sites last (named_here rs p h a) → may_stand_last passed' new (channel_here rs' p h a) ≡ may_stand_last passed last (channel_here rs p h a)
channel_same passed passed' rs rs' p h a last new e r n =
    ap₂ (λ (l k : List (ℕ × ℕ)). may_stand_last l new (channel_here k p h a)) e r
    ∙ channel_by passed rs p h a last new (λ c. ap (λ f. f (Channel c)) n ∙ named_keep last rs p h a c)

-- a node's sites, one kind after the other
pub both_noted : (trees : List KindTree) (s r q : State) (p : ℕ) (h : Head) (a : Tree) → OnlySites trees s r (named_here s.replications.items p h a) → OnlySites trees r q (channel_here r.replications.items p h a) → OnlySites trees s q (sites_here s.replications.items p h a)
both_noted trees s r q p h a m n = record {
  above = above_again s r q m.above n.above;
  last =
      n.last
      ∙ (ap₂ (λ f (l : List (ℕ × ℕ)). with_sites f (channel_here l p h a)) m.last m.above.replications
      ∙ sym (sites_append (last_held trees s.last) (named_here s.replications.items p h a) (channel_here s.replications.items p h a)));
  live = n.live;
}

-- the first test that fails

pub channel_fails : (u t c k r : Bool) → true ≡ u → true ≡ t → true ≡ c → false ≡ k → Some fault.Channel ≡ first_failing u t (c && k) r
channel_fails true true true false r e f g h = refl
channel_fails false t c k r e f g h = absurd (cc)
channel_fails true false c k r e f g h = absurd (cc)
channel_fails true true false k r e f g h = absurd (cc)
channel_fails true true true true r e f g h = absurd (cc)

pub replications_fail : (u t c k r : Bool) → true ≡ u → true ≡ t → true ≡ c → true ≡ k → false ≡ r → Some fault.Replications ≡ first_failing u t (c && k) r
replications_fail true true true true false e f g h i = refl
replications_fail false t c k r e f g h i = absurd (cc)
replications_fail true false c k r e f g h i = absurd (cc)
replications_fail true true false k r e f g h i = absurd (cc)
replications_fail true true true false r e f g h i = absurd (cc)
replications_fail true true true true true e f g h i = absurd (cc)

pub none_fail : (u t c k r : Bool) → true ≡ u → true ≡ t → true ≡ c → true ≡ k → true ≡ r → None ≡ first_failing u t (c && k) r
none_fail true true true true true e f g h i = refl
none_fail false t c k r e f g h i = absurd (cc)
none_fail true false c k r e f g h i = absurd (cc)
none_fail true true false k r e f g h i = absurd (cc)
none_fail true true true false r e f g h i = absurd (cc)
none_fail true true true true false e f g h i = absurd (cc)
