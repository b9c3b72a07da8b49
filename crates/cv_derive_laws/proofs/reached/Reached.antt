-- The places of derivations are reached where they are visited.
use Rattle.std.proofs.Common.{◌≡◌, ℕ, ◌+◌, ◌-◌, ◌≤◌, ◌<◌, Bool, true, false, cond, ◌||◌, ◌==◌, List, [], ◌∷◌, ◌++◌, map, inl, inr, Option, Some, None, is_some, refl, sym, ap, subst, ◌∙◌, eqb-true, arith}
use Rattle.std.specs.Prelude.{option_and_then}
use Rattle.std.proofs.lemmas.Bool.{both_ways, and_parts, or_left, or_right}
use Rattle.std.specs.List.{AllByRecursion}
use Rattle.cv_syntax_trees.specs.declared.head.Head.TheVariants.{Branch, Cons, Find, Leaf, Par, Read}
use Rattle.cv_syntax_trees.specs.Declarations.{Declaration}
use Rattle.cv_syntax_trees.specs.Head.{weight}
use Rattle.cv_syntax.specs.Layouts.{IsSyntax}
use Rattle.cv_syntax_trees.specs.Tree.{Tree, Empty, Node, first, first_place, second, second_place, size}
use Rattle.cv_meaning.specs.Side.{no_side}
use Rattle.cv_meaning.specs.Interpretation.{Interpretation, Setting, is_constant_of, setting_of}
use Rattle.cv_meaning.specs.Binders.{bound_to}
use Rattle.cv_meaning.specs.Memory.{Indices, Local, Memory, Store, tuple}
use Rattle.cv_meaning.specs.Terms.{found_in, leaf_value_from, value, values}
use Rattle.cv_meaning.specs.Candidates.{are_assigned, is_assigned}
use Rattle.cv_meaning.specs.Satisfies.{Satisfies}
use Rattle.cv_meaning.specs.Serving.{Visit}
use Rattle.cv_meaning_laws.specs.adequacy.Typed as meaning
use Rattle.cv_meaning_laws.specs.adequacy.Typed.{IsTypedStore}
use Rattle.cv_meaning_laws.proofs.adequacy.Sorted.{typed_value}
use Rattle.cv_meaning_runs.specs.Placed.{IsSubtreeOrList, VisitHas}
use Rattle.cv_scope_rules.specs.Context.{Context, items, known_at}
use Rattle.cv_scope_rules.specs.Rules.{is_index}
use Rattle.cv_scope_rules.specs.Scope.{is_variable}
use Rattle.cv_scope_rules.specs.Scope as scope
use Rattle.cv_scope_rules.specs.Standing.{at_root}
use Rattle.cv_scope_rules.specs.Phrases.{Phrase, Branches, Nil, OneCell, is_oracle_phrase, is_phrase}
use Rattle.cv_scope_rules.specs.Made.{OwnUnassigned, is_bound, is_own_of}
use Rattle.cv_scope_runs.specs.Promises.{AreIndicesOf, GrowsTo}
use Rattle.cv_scope_runs.specs.Reads.{IsKept}
use Rattle.cv_scope_runs.proofs.Contexts.{index_none}
use Rattle.cv_typing_runs.specs.Games.{context_of}
use Rattle.cv_typing_runs.proofs.Games.{typed}
use Rattle.cv_typing_runs.proofs.Models.{is_model}
use Rattle.cv_typing_runs.proofs.Terms.{nil_empty}
use Rattle.cv_derive_facts.specs.Definitions.{IsBehind, behind_at}
use Rattle.cv_scope_rules.specs.Behind.{in_body, in_condition, sites_of}
use Rattle.cv_derive_facts.specs.Promises.{BranchesPlaces, BranchesStand, CandidatesStand, IsOwnTerm, PlaceStands, SitesStand, StandsIn, VisitSitesStand}
use Rattle.cv_scope_rules.specs.Above.{stands_at}
use Rattle.cv_scene.specs.Scenes.{Scene}
use Rattle.cv_scene.specs.Terms.{replications_at, replications_by}
use Rattle.cv_scene.specs.lines.Given.{term_for, or_node, with_given}
use Rattle.cv_scene.specs.Sights.{Pair, Sight, at_site, cells_by, facts_by, only_site, sight_at, variable_of}
use Rattle.cv_derive_laws.specs.stores.Reached.{BranchSitesStand, CandidateSitesStand, CellsBetween, HasTypes, PlaceCellsBetween, SiteCellsBetween, SitesStandNow}
use Rattle.cv_scene.specs.Late.{is_late}
use Rattle.cv_derive_laws.specs.late.Unassigned.{IsWellVisited, LateAreUnassigned}
use Rattle.cv_derive_laws.proofs.late.Branches.{AreLate, body_late, branch_phrase, condition_late, find_phrase, first_late, more_phrase, second_late}
use Rattle.cv_derive_laws.proofs.stores.Sites.{bound_keeps, bound_other}
use Rattle.cv_derive_laws.specs.stores.Truth.{AreAssigned, AreTrue, IfBeside, WasReached, is_name_of}
use Rattle.cv_derive_laws.proofs.Blocks.{derivation_holds}
use Rattle.cv_derive_laws.proofs.Substitution.{names_of, put_value, put_values}
use Rattle.cv_derive_laws.specs.reached.Fine.{IsFine, IsFineCell, IsFineTerm, IsNamed}
use Rattle.cv_derive_laws.specs.stores.Holding.{HoldAt, HoldAtCandidates, HoldAtConditions, HoldAtFind, HoldAtTests, HoldAtVisit, HoldInBodies, HoldInConditions, IsReady}
use Rattle.cv_derive_laws.proofs.reached.Bound.{IsGood, candidate_typed, find_good, first_good, rest_good}
use Rattle.cv_derive_laws.proofs.reached.Replications.{Each, above, each_above, no_constants, no_variables, same_replications}
use Rattle.cv_derive_laws.proofs.reached.Walks.{places_fine}
use Rattle.cv_syntax_trees.proofs.lists.Each.{AllByRecursion_append}

-- indices

pub no_index : (bad : ℕ → Bool) (rs : List (ℕ × ℕ)) (x : ℕ) → Each (λ i. bad i ≡ false) rs → bad x ≡ true → is_index rs x ≡ false
no_index bad [] x e b = refl
no_index bad (r ∷ rs) x e b = go (r.0 == x) refl (no_index bad rs x e.1 b)
  where
    go : (c : Bool) → (r.0 == x) ≡ c → is_index rs x ≡ false → (c || is_index rs x) ≡ false
    go true f k = absurd (both_ways (bad x) (ap bad (sym (eqb-true r.0 x f)) ∙ e.0) b)
    go false f k = k

pub index_value : (g : Setting) (ix : Indices) (rs : List (ℕ × ℕ)) (x : ℕ) → AreIndicesOf g ix rs → is_index rs x ≡ true → found_in ix x ≡ None → ⊥
index_value g [] [] x n e f = both_ways false refl e
index_value g [] (r ∷ rs) x n e f = n
index_value g (p ∷ ix) [] x n e f = n
index_value g (p ∷ ix) (r ∷ rs) x n e f = go (p.0 == x) (ap (λ y. (y == x) || is_index rs x) n.0 ∙ e) f (index_value g ix rs x n.2)
  where
    go : (b : Bool) → (b || is_index rs x) ≡ true → cond b (Some p.1) (found_in ix x) ≡ None → (is_index rs x ≡ true → found_in ix x ≡ None → ⊥) → ⊥
    go true e f k = cc
    go false e f k = k e f

pub index_names : (g : Setting) (ix : Indices) (rs : List (ℕ × ℕ)) → AreIndicesOf g ix rs → names_of ix ≡ map (λ (r : ℕ × ℕ). r.0) rs
index_names g [] [] n = refl
index_names g [] (r ∷ rs) n = absurd n
index_names g (p ∷ ix) [] n = absurd n
index_names g (p ∷ ix) (r ∷ rs) n = λ k. n.0 k ∷ index_names g ix rs n.2 k

pub same_indices : (ds : List Declaration) (i : Interpretation) (ix : Indices) (rs : List (ℕ × ℕ)) → AreIndicesOf (setting_of ds i) ix rs → meaning.AreIndicesOf i rs ix
same_indices ds i [] [] n = tt
same_indices ds i [] (r ∷ rs) n = absurd n
same_indices ds i (p ∷ ix) [] n = absurd n
same_indices ds i (p ∷ ix) (r ∷ rs) n = (n.0, n.1, same_indices ds i ix rs n.2)

given_none : (names : List ℕ) (terms : Tree) (x : ℕ) → is_name_of names x ≡ false → term_for names terms x ≡ None
given_none [] terms x e = refl
given_none (k ∷ names) Empty x e = refl
given_none (k ∷ names) (Node h t more) x e = go (k == x) e (given_none names more x)
  where
    go : (b : Bool) → (b || is_name_of names x) ≡ false → (is_name_of names x ≡ false → term_for names more x ≡ None) → cond b (Some t) (term_for names more x) ≡ None
    go true e f = absurd (cc)
    go false e f = f e

index_named : (rs : List (ℕ × ℕ)) (x : ℕ) → is_name_of (map (λ (r : ℕ × ℕ). r.0) rs) x ≡ is_index rs x
index_named [] x = refl
index_named (r ∷ rs) x = ap (λ b. (r.0 == x) || b) (index_named rs x)

above_known : (o : Option Context) (rs : List (ℕ × ℕ)) → above o ≡ Some rs → replications_by o ≡ rs
above_known None rs e = absurd (cc)
above_known (Some Γ) rs e = cc

module _ (s : Scene) (i : Interpretation) (ready : IsReady s.declarations s.game) (model : Satisfies s.declarations i) (behind : (y : ℕ) → AllByRecursion (IsBehind s.game) (sites_of s.game y)) where
  abbrev g : Setting
  g = setting_of s.declarations i

  -- no replication has the name of a constant or of a variable

  pub constants_apart : (p : ℕ) (Γ : Context) → stands_at s.game p ≡ Some Γ → Each (λ k. is_constant_of s.declarations k ≡ false) Γ.replications
  constants_apart p Γ e = each_above (λ k. is_constant_of s.declarations k ≡ false) s.game p Γ (no_constants (is_constant_of s.declarations) s.game ready.formed.constants) e

  pub variables_apart : (p : ℕ) (Γ : Context) → stands_at s.game p ≡ Some Γ → Each (λ k. is_variable s.game k ≡ false) Γ.replications
  variables_apart p Γ e = each_above (λ k. is_variable s.game k ≡ false) s.game p Γ (no_variables (scope.names_of s.declarations s.game) at_root s.game ready.formed.scoped) e

  behind_place : (q : ℕ) (Δ : Context) → IsBehind s.game (q, Δ) → (p : ℕ) × (stands_at s.game p ≡ Some Δ)
  behind_place q Δ e = go (behind_at s.game q) e
    where
      go : (o : Option ℕ) → option_and_then (stands_at s.game) o ≡ Some Δ → (p : ℕ) × (stands_at s.game p ≡ Some Δ)
      go None e = absurd (cc)
      go (Some p) e = (p, e)

  -- what stands somewhere holds, where cells are looked up in a first store and terms have their values in a second one
  pub record IsBetween (Γ : Context) (at : Indices) (m n : Store) : Type 0 where
    pub indices : AreIndicesOf g at Γ.replications
    pub facts : AreTrue g at m n Γ.facts
    pub cells : AreAssigned g at m n Γ.cells

  -- behind the only definition of the variable of an assigned cell
  abbrev pub SitesBetween : Store → Store → Type 0
  SitesBetween m n = (y p : ℕ) (Γ : Context) → sites_of s.game y ≡ (p, Γ) ∷ [] → (u : List ℕ) (v : ℕ) → m y u ≡ Some v → (ix : Indices) × (tuple ix ≡ u) × IsBetween Γ ix m n

  -- each current index is found by its name
  abbrev AreFound : Indices → Type 0
  AreFound at = AllByRecursion (λ (q : ℕ × ℕ). found_in at q.0 ≡ Some q.1) at

  -- a variable that comes later than a place is assigned at no outer part of the copy
  abbrev AreUnassigned : ℕ → Indices → Store → Type 0
  AreUnassigned p at m = (x : ℕ) (u more : List ℕ) → is_late x s.game p ≡ true → u ++ more ≡ tuple at → m x u ≡ None

  -- in an environment that names neither constants nor variables

  module _ (at : Indices) (rs : List (ℕ × ℕ)) (m n : Store) (indices : AreIndicesOf g at rs) (constant_none : (y : ℕ) → is_constant_of s.declarations y ≡ true → found_in at y ≡ None) (variable_none : (y : ℕ) → is_variable s.game y ≡ true → found_in at y ≡ None) (types : IsTypedStore (context_of s.declarations s.game) i n) where
    -- what stands at a place, at index terms

    module _ (q : ℕ) (Δ : Context) (fine : IsFine s.declarations s.game Δ) (stood : stands_at s.game q ≡ Some Δ) (ix : Indices) (holds : IsBetween Δ ix m n) (terms : Tree) (same : values g at n terms ≡ tuple ix) where
      names : names_of ix ≡ map (λ (r : ℕ × ℕ). r.0) Δ.replications
      names = index_names g ix Δ.replications holds.indices

      abbrev put : Tree → Tree
      put t = with_given (map (λ (r : ℕ × ℕ). r.0) Δ.replications) terms t

      leaf : (y : ℕ) → IsNamed s.declarations s.game Δ.replications y → found_in ix y ≡ None → leaf_value_from g n y (found_in at y) ≡ leaf_value_from g n y None
      leaf y (inl e) f = absurd (index_value g ix Δ.replications y holds.indices e f)
      leaf y (inr (inl e)) f = ap (leaf_value_from g n y) (constant_none y e)
      leaf y (inr (inr e)) f = ap (leaf_value_from g n y) (variable_none y e)

      pub term_value : (t : Tree) → IsFineTerm s.declarations s.game Δ.replications t → value g at n (put t) ≡ value g ix n t
      term_value t f =
          ap (λ xs. value g at n (with_given xs terms t)) (sym names)
          ∙ put_value g at n n (IsNamed s.declarations s.game Δ.replications) (Unit {0}) ix terms same leaf (λ b y u. refl) t f

      cell_holds : (t : Tree) → IsFineCell s.declarations s.game Δ.replications t → is_assigned g ix m n t ≡ true → is_assigned g at m n (put t) ≡ true
      unfolding with_given
      cell_holds Empty f e = absurd f
      cell_holds (Node (Leaf y) a b) f e =
          let none : term_for (map (λ (r : ℕ × ℕ). r.0) Δ.replications) terms y ≡ None =
          given_none (map (λ (r : ℕ × ℕ). r.0) Δ.replications) terms y (index_named Δ.replications y ∙ no_index (is_variable s.game) Δ.replications y (variables_apart q Δ stood) f) in
          ap (λ o. is_assigned g at m n (or_node o (Leaf y) (put a) (put b))) none ∙ e
      cell_holds (Node (Read y) a b) f e =
          ap (λ u. is_some (m y u))
          (ap (λ xs. values g at n (with_given xs terms a)) (sym names) ∙ put_values g at n n (IsNamed s.declarations s.game Δ.replications) (Unit {0}) ix terms same leaf (λ b y u. refl) a f) ∙ e
      cell_holds (Node h a b) f e = absurd f

      pub facts_hold : (ts : List Tree) → AllByRecursion (IsFineTerm s.declarations s.game Δ.replications) ts → AllByRecursion (λ t. value g ix n t ≡ 1) ts → AreTrue g at m n (map put ts)
      facts_hold [] f e = tt
      facts_hold (t ∷ ts) f e = (term_value t f.0 ∙ e.0, facts_hold ts f.1 e.1)

      pub cells_hold : (ts : List Tree) → AllByRecursion (IsFineCell s.declarations s.game Δ.replications) ts → AllByRecursion (λ t. is_assigned g ix m n t ≡ true) ts → AreAssigned g at m n (map put ts)
      cells_hold [] f e = tt
      cells_hold (t ∷ ts) f e = (cell_holds t f.0 e.0, cells_hold ts f.1 e.1)

    abbrev Serves : Tree → Option Context → Type 0
    Serves c o = AreTrue g at m n (at_site (λ (Δ : Context). Δ.facts) c o) × AreAssigned g at m n (at_site (λ (Δ : Context). Δ.cells) c o)

    some_value : (o : Option ℕ) → is_some o ≡ true → (v : ℕ) × (o ≡ Some v)
    some_value None e = absurd (both_ways false refl e)
    some_value (Some v) e = (v, refl)

    one_site : SitesBetween m n → (c : Tree) (y : ℕ) (u : List ℕ) (l : List (ℕ × Context)) → sites_of s.game y ≡ l → values g at n (first c) ≡ u → is_some (m y u) ≡ true → Serves c (only_site l)
    one_site sites c y u [] e f k = (tt, tt)
    one_site sites c y u (d ∷ (k ∷ l)) e f z = (tt, tt)
    one_site sites c y u (d ∷ []) e f k =
        let v = some_value (m y u) k in
        let r = sites y d.0 d.1 e u v.0 v.1 in
        let from = behind_place d.0 d.1 (subst (AllByRecursion (IsBehind s.game)) e (behind y)).0 in
        let fine = places_fine s.declarations s.game ready.formed.phrase (typed s.declarations s.game ready.arguments ready.formed ready.typed ready.names) ready.cells from.0 d.1 from.1 in
        let same : values g at n (first c) ≡ tuple r.0 = f ∙ sym r.1 in (
          facts_hold from.0 d.1 fine from.1 r.0 r.2 (first c) same d.1.facts fine.facts r.2.facts,
          cells_hold from.0 d.1 fine from.1 r.0 r.2 (first c) same d.1.cells fine.cells r.2.cells,
        )

    cell_serves : SitesBetween m n → (c : Tree) → is_phrase OneCell c ≡ true → is_assigned g at m n c ≡ true → Serves c (option_and_then (λ x. only_site (sites_of s.game x)) (variable_of c))
    unfolding is_phrase values
    cell_serves sites Empty f e = absurd (both_ways false refl f)
    cell_serves sites (Node (Leaf y) a b) f e =
        one_site sites (Node (Leaf y) a b) y [] (sites_of s.game y) refl (ap (values g at n) (nil_empty a (and_parts (is_phrase Nil a) (is_phrase Nil b) f).0)) e
    cell_serves sites (Node (Read y) a b) f e = one_site sites (Node (Read y) a b) y (values g at n a) (sites_of s.game y) refl refl e
    cell_serves sites (Node h a b) f e = absurd (both_ways false refl f)

    -- what a derivation may cite there
    pub seen : SitesBetween m n → (p : ℕ) (facts cells : List Tree) (o : Option Pair) → AreTrue g at m n facts → AreAssigned g at m n cells → IfBeside g at m n o
        → WasReached (record { scene = s; place = p; replications = rs; facts = facts; cells = cells; pair = o }) i at m n
    seen sites p facts cells o f d z = record {
      indices = indices;
      facts = f;
      cells = d;
      constants = constant_none;
      types = λ t S h. typed_value (context_of s.declarations s.game) i no_side (is_model s.declarations s.game i model ready.sorts) rs at n (same_indices s.declarations i at rs indices) types t S h;
      sites = λ c k e. cell_serves sites c (and_parts (is_phrase OneCell c) _ k).0 e;
      beside = z;
    }

  module _ (p : ℕ) (Γ : Context) (at : Indices) (m n : Store) (there : stands_at s.game p ≡ Some Γ) (stands : IsBetween Γ at m n) (sites : SitesBetween m n) (types : IsTypedStore (context_of s.declarations s.game) i n) where
    pub constant_none : (y : ℕ) → is_constant_of s.declarations y ≡ true → found_in at y ≡ None
    constant_none y e = index_none g at Γ.replications y stands.indices (no_index (is_constant_of s.declarations) Γ.replications y (constants_apart p Γ there) e)

    pub variable_none : (y : ℕ) → is_variable s.game y ≡ true → found_in at y ≡ None
    variable_none y e = index_none g at Γ.replications y stands.indices (no_index (is_variable s.game) Γ.replications y (variables_apart p Γ there) e)

    abbrev here : Sight
    here = sight_at s p

    pub known_there : Γ.replications ≡ replications_at s p
    known_there = sym (above_known (known_at s.game p) Γ.replications (same_replications s.game p ∙ ap above there))

    was_reached : WasReached here i at m n
    was_reached =
        seen at (replications_at s p) m n (subst (AreIndicesOf g at) known_there stands.indices) constant_none variable_none types sites p (facts_by (stands_at s.game p)) (cells_by (stands_at s.game p)) None
        (subst (λ o. AreTrue g at m n (facts_by o)) (sym there) stands.facts) (subst (λ o. AreAssigned g at m n (cells_by o)) (sym there) stands.cells) tt

    holds_between : AreFound at → AreUnassigned p at m → HoldAt s i p at m n
    holds_between found late by e = derivation_holds here i at m n was_reached ready.arguments ready.formed model ready.equations by (inl (record { was = was_reached; found = found; late = late })) e

  -- in one store

  pub one_stands : (Γ : Context) (at : Indices) (x : Memory) → StandsIn g Γ at x → IsBetween Γ at x.store x.store
  one_stands Γ at x stands = record { indices = stands.indices; facts = stands.facts; cells = stands.cells }

  pub one_sites : (x : Memory) → SitesStandNow g s.game x → SitesBetween x.store x.store
  one_sites x sites y q Δ e u v k = let r = sites y q Δ e u v k in (r.0, r.1, one_stands Δ r.0 x r.2)

  holds_there : (p : ℕ) (Γ : Context) (at : Indices) (x : Memory) → stands_at s.game p ≡ Some Γ → StandsIn g Γ at x → SitesStandNow g s.game x → IsTypedStore (context_of s.declarations s.game) i x.store → AreFound at → AreUnassigned p at x.store → HoldAt s i p at x.store x.store
  holds_there p Γ at x there stands sites types found late =
      holds_between p Γ at x.store x.store there (one_stands Γ at x stands) (one_sites x sites) types found late

  -- at visits

  grows_same : (x : Memory) → GrowsTo x x
  grows_same x = record { store = λ y u v e. e; events = λ d k. k }

  now : (x : Memory) → SitesStand g s.game x → SitesStandNow g s.game x
  now x h y p Γ e u v k = let r = h y p Γ e u v k in (r.0, r.1, r.2 x (grows_same x))

  -- the places of a construct: its own, and those of its terms

  own_place : (p : ℕ) (t : Tree) → IsSyntax t → (p ≡ p + 0) × (0 < size t)
  unfolding size
  own_place p Empty is = absurd is
  own_place p (Node h a b) is = let e : weight h ≡ 1 = is in (omega arith, omega arith)

  rest_of : (p w s t q : ℕ) → p + w ≤ q → q < p + w + s → (r : ℕ) × (q ≡ p + r) × (r < w + s + t)
  rest_of p w s t q l k = (q - p, omega arith, omega arith)

  term_place : (p : ℕ) (t : Tree) (q : ℕ) → IsOwnTerm p t q → (r : ℕ) × (q ≡ p + r) × (r < size t)
  unfolding size
  term_place p Empty q o = absurd o
  term_place p (Node (Find l) a b) q o = absurd o
  term_place p (Node Par a b) q o = absurd o
  term_place p (Node h a b) q o = rest_of p (weight h) (size a) (size b) q o.0 o.1

  late_there : (v : Visit) → LateAreUnassigned s.game v → IsSyntax v.tree → (q r : ℕ) → q ≡ v.place + r → r < size v.tree → AreUnassigned q v.before.indices v.before.memory.store
  late_there v f is q r e l x u more k i = (f is x r l (subst (λ n. is_late x s.game n ≡ true) e k)).unassigned u more i

  visit_holds : (v : Visit) → PlaceStands g s.game v → VisitSitesStand g s.game v → HasTypes s.declarations s.game i v → LateAreUnassigned s.game v → IsWellVisited v → HoldAtVisit s i v
  visit_holds v h k t f w is =
      let r = h is in
      let o = own_place v.place v.tree is in (
        holds_there v.place r.0 v.before.indices v.before.memory r.1 (r.3 v.before.memory (grows_same v.before.memory)) (now v.before.memory k) t w.found (late_there v f is v.place 0 o.0 o.1),
        λ q z.
            let y = term_place v.place v.tree q z in
            holds_there q r.0 v.before.indices v.before.memory (r.2 q z) (r.3 v.before.memory (grows_same v.before.memory)) (now v.before.memory k) t w.found (late_there v f is q y.0 y.1 y.2),
      )

  pub visits_hold : (vs : List Visit) → AllByRecursion (PlaceStands g s.game) vs → AllByRecursion (VisitSitesStand g s.game) vs → AllByRecursion (HasTypes s.declarations s.game i) vs
      → AllByRecursion (LateAreUnassigned s.game) vs → AllByRecursion IsWellVisited vs → AllByRecursion (HoldAtVisit s i) vs
  visits_hold [] a b d e f = tt
  visits_hold (v ∷ vs) a b d e f = (visit_holds v a.0 b.0 d.0 e.0 f.0, visits_hold vs a.1 b.1 d.1 e.1 f.1)

  -- in the bodies of candidates

  abbrev T : meaning.Context
  T = context_of s.declarations s.game

  bodies_hold : (Γ : Context) (p : ℕ) (at : Indices) (x : Memory) (t : Tree) → AreIndicesOf g at Γ.replications → IsTypedStore T i x.store → IsGood s.declarations s.game Γ.replications t → BranchesPlaces s.game Γ p t → BranchesStand g Γ at x t → BranchSitesStand g s.game at x t
      → AreFound at → AreLate s.game at x.store p t → is_oracle_phrase Branches t ≡ true → HoldInBodies s i p at x t
  bodies_hold Γ p at x Empty a h k b d f found late phrase = tt
  bodies_hold Γ p at x (Node Cons (Node Branch us rest) more) a h k b d f found late phrase = (
    λ u fitting candidate.
        holds_there (second_place (first_place p Cons) Branch us + size (first rest) + size (first (second rest))) (in_body Γ us (first rest) (first (second rest))) at (record x { store = bound_to x.store (tuple at) us u }) b.0.body
        ((d.0 u fitting).body candidate) (f.0 u fitting candidate)
        (candidate_typed s.declarations s.game i Γ.replications at us rest u x.store (first_good s.declarations s.game Γ.replications (Node Branch us rest) more k) a fitting h) found
        (λ y w last e j.
        let z = body_late s.game at x.store (first_place p Cons) us rest (branch_phrase us rest more phrase) (first_late s.game at x.store p Cons (Node Branch us rest) more late) y e in
        bound_other x.store (tuple at) us u y w (λ k l. both_ways (is_bound us y) z.free k) ∙ z.unassigned w last j),
    bodies_hold Γ (second_place p Cons (Node Branch us rest)) at x more a h (rest_good s.declarations s.game Γ.replications (Node Branch us rest) more k) b.1 d.1 f.1 found
        (second_late s.game at x.store p Cons (Node Branch us rest) more late) (more_phrase (Node Branch us rest) more phrase),
  )
  bodies_hold Γ p at x t a h k b d f found late phrase = tt

  -- a visited `find` has branches in the grammar, in which variables come later
  find_late : (p l : ℕ) (a b : Tree) (k : Local) → LateAreUnassigned s.game (record { place = p; tree = Node (Find l) a b; before = k }) → AreLate s.game k.indices k.memory.store (first_place p (Find l)) a
  find_late p l a b k f = first_late s.game k.indices k.memory.store p (Find l) a b (λ x r less e. let z = f refl x r less e in (z.tree, z.unassigned))

  candidates_hold : (v : Visit) → PlaceStands g s.game v → CandidatesStand g s.game v → CandidateSitesStand g s.game v → HasTypes s.declarations s.game i v → VisitHas (IsSubtreeOrList s.game) v → LateAreUnassigned s.game v → IsWellVisited v → HoldAtFind s i v
  candidates_hold v place stands sites types tree late well = go v.tree v.before place stands sites types tree late well.found well.phrase well.is
    where
      go : (t : Tree) (k : Local) → PlaceStands g s.game (record { place = v.place; tree = t; before = k }) → CandidatesStand g s.game (record { place = v.place; tree = t; before = k }) → CandidateSitesStand g s.game (record { place = v.place; tree = t; before = k })
          → IsTypedStore T i k.memory.store → IsSubtreeOrList s.game v.place t → LateAreUnassigned s.game (record { place = v.place; tree = t; before = k }) → AreFound k.indices → (σ : Phrase) → is_oracle_phrase σ t ≡ true → HoldAtCandidates s i v.place t k
      go (Node (Find l) a b) k place stands sites types tree late found σ phrase =
          let r = stands refl in
          let q = place refl in
          let same : q.0 ≡ r.0 = one_context q.0 r.0 (sym q.1 ∙ r.1) in
          bodies_hold r.0 (first_place v.place (Find l)) k.indices k.memory a
          (subst (λ (Γ : Context). AreIndicesOf g k.indices Γ.replications) same (q.3 k.memory (grows_same k.memory)).indices) types
          (find_good s.declarations s.game v.place l a b r.0 ready.formed ready.typed (tree refl) r.1) r.2 r.3 sites found (find_late v.place l a b k late) (find_phrase σ l a b phrase)
        where
          one_context : (Γ Δ : Context) → ◌≡◌ {A = Option Context} (Some Γ) (Some Δ) → Γ ≡ Δ
          one_context Γ Δ e = cc
      go t k place stands sites types tree late found σ phrase = tt

  pub finds_hold : (vs : List Visit) → AllByRecursion (PlaceStands g s.game) vs → AllByRecursion (CandidatesStand g s.game) vs → AllByRecursion (CandidateSitesStand g s.game) vs → AllByRecursion (VisitHas (IsSubtreeOrList s.game)) vs → AllByRecursion (HasTypes s.declarations s.game i) vs
      → AllByRecursion (LateAreUnassigned s.game) vs → AllByRecursion IsWellVisited vs → AllByRecursion (HoldAtFind s i) vs
  finds_hold [] a b d e f h k = tt
  finds_hold (v ∷ vs) a b d e f h k = (candidates_hold v a.0 b.0 d.0 f.0 e.0 h.0 k.0, finds_hold vs a.1 b.1 d.1 e.1 f.1 h.1 k.1)

  -- in conditions

  same_copies : (a b : Indices) (rs : List (ℕ × ℕ)) → AreIndicesOf g a rs → AreIndicesOf g b rs → tuple a ≡ tuple b → a ≡ b
  same_copies [] [] [] h k e = refl
  same_copies [] [] (r ∷ rs) h k e = absurd h
  same_copies [] (q ∷ b) [] h k e = absurd k
  same_copies [] (q ∷ b) (r ∷ rs) h k e = absurd h
  same_copies (p ∷ a) b [] h k e = absurd h
  same_copies (p ∷ a) [] (r ∷ rs) h k e = absurd k
  same_copies (p ∷ a) (q ∷ b) (r ∷ rs) h k e =
      let f = apart p.1 q.1 (tuple a) (tuple b) e in
      let x : p.0 ≡ q.0 = h.0 ∙ sym k.0 in
      λ i. (x i, f.0 i) ∷ same_copies a b rs h.2 k.2 f.1 i
    where
      apart : (x y : ℕ) (xs ys : List ℕ) → x ∷ xs ≡ y ∷ ys → (x ≡ y) × (xs ≡ ys)
      apart x y xs ys e = (cc, cc)

  items_assigned : (at : Indices) (m n : Store) (t : Tree) → are_assigned g at m n t ≡ true → AreAssigned g at m n (items t)
  items_assigned at m n Empty e = tt
  items_assigned at m n (Node h a b) e = go (is_assigned g at m n a) refl e (items_assigned at m n b)
    where
      go : (c : Bool) → is_assigned g at m n a ≡ c → elim c [ true ↦ are_assigned g at m n b | false ↦ false ] ≡ true → (are_assigned g at m n b ≡ true → AreAssigned g at m n (items b)) → AreAssigned g at m n (a ∷ items b)
      go true f e k = (f, k e)
      go false f e k = absurd (both_ways false refl e)

  record IsVisited (v : Visit) : Type 0 where
    place : PlaceStands g s.game v
    candidates : CandidatesStand g s.game v
    sites : VisitSitesStand g s.game v
    cells : PlaceCellsBetween g s.game v
    site_cells : SiteCellsBetween g s.game v
    own : OwnUnassigned v
    types : HasTypes s.declarations s.game i v
    tree : VisitHas (IsSubtreeOrList s.game) v
    late : LateAreUnassigned s.game v
    well : IsWellVisited v

  -- the stores of a visited `find`, the second one with the values of a tuple
  module _ (at : Indices) (x : Memory) (stand : SitesStand g s.game x)
      (cells : (y p : ℕ) (Γ : Context) → sites_of s.game y ≡ (p, Γ) ∷ [] → (u : List ℕ) (k : ℕ) → x.store y u ≡ Some k → (ix : Indices) × (tuple ix ≡ u) × AreIndicesOf g ix Γ.replications × CellsBetween g ix x.store Γ.cells) (n : Store) (kept : IsKept x.store n) where
    grown : GrowsTo x (record x { store = n })
    grown = record { store = kept; events = λ d k. k }

    sites_between : SitesBetween x.store n
    sites_between y p Δ e u v k =
        let r = stand y p Δ e u v k in
        let z = cells y p Δ e u v k in
        let here = r.2 (record x { store = n }) grown in
        let same : z.0 ≡ r.0 = same_copies z.0 r.0 Δ.replications z.2 here.indices (z.1 ∙ sym r.1) in
        (r.0, r.1, record { indices = here.indices; facts = here.facts; cells = subst (λ ix. AreAssigned g ix x.store n Δ.cells) same (z.3 n kept) })

  conditions_hold : (Γ : Context) (p : ℕ) (at : Indices) (x : Memory) (t : Tree) → AreIndicesOf g at Γ.replications → IsTypedStore T i x.store → SitesStand g s.game x
      → ((y p : ℕ) (Γ : Context) → sites_of s.game y ≡ (p, Γ) ∷ [] → (u : List ℕ) (k : ℕ) → x.store y u ≡ Some k → (ix : Indices) × (tuple ix ≡ u) × AreIndicesOf g ix Γ.replications × CellsBetween g ix x.store Γ.cells)
      → CellsBetween g at x.store Γ.cells → ((y : ℕ) → is_own_of t y ≡ true → x.store y (tuple at) ≡ None) → IsGood s.declarations s.game Γ.replications t → BranchesPlaces s.game Γ p t → BranchesStand g Γ at x t
      → AreFound at → AreLate s.game at x.store p t → HoldInConditions s i p at x t
  conditions_hold Γ p at x Empty a h stand sites cells free k b d found late = tt
  conditions_hold Γ p at x (Node Cons (Node Branch us rest) more) a h stand sites cells free k b d found late = (
    λ u fitting listed q less.
        let n : Store = bound_to x.store (tuple at) us u in
        let kept : IsKept x.store n = bound_keeps x.store (tuple at) us u (λ y e. free y (or_left (is_bound us y) (is_own_of more y) e)) in
        let here = (d.0 u fitting).condition listed in
        holds_between (second_place (first_place p Cons) Branch us + size (first rest) + q) (in_condition Γ us (first rest)) at x.store n (b.0.condition q less)
        (record { indices = here.indices; facts = here.facts; cells = AllByRecursion_append (λ c. is_assigned g at x.store n c ≡ true) Γ.cells (items (first rest)) (cells n kept) (items_assigned at x.store n (first rest) listed) })
        (sites_between at x stand sites n kept) (candidate_typed s.declarations s.game i Γ.replications at us rest u x.store (first_good s.declarations s.game Γ.replications (Node Branch us rest) more k) a fitting h) found
        (λ y w last e j. condition_late s.game at x.store (first_place p Cons) us rest q less (first_late s.game at x.store p Cons (Node Branch us rest) more late) y e w last j),
    conditions_hold Γ (second_place p Cons (Node Branch us rest)) at x more a h stand sites cells (λ y e. free y (or_right (is_bound us y) (is_own_of more y) e)) (rest_good s.declarations s.game Γ.replications (Node Branch us rest) more k) b.1 d.1 found
        (second_late s.game at x.store p Cons (Node Branch us rest) more late),
  )
  conditions_hold Γ p at x t a h stand sites cells free k b d found late = tt

  tests_hold : (v : Visit) → IsVisited v → HoldAtConditions s i v
  tests_hold v z = go v.tree v.before z.place z.candidates z.sites z.cells z.site_cells z.own z.types z.tree z.late z.well.found
    where
      go : (t : Tree) (k : Local) → PlaceStands g s.game (record { place = v.place; tree = t; before = k }) → CandidatesStand g s.game (record { place = v.place; tree = t; before = k }) → VisitSitesStand g s.game (record { place = v.place; tree = t; before = k }) → PlaceCellsBetween g s.game (record { place = v.place; tree = t; before = k }) → SiteCellsBetween g s.game (record { place = v.place; tree = t; before = k }) → OwnUnassigned (record { place = v.place; tree = t; before = k }) → IsTypedStore T i k.memory.store → IsSubtreeOrList s.game v.place t
          → LateAreUnassigned s.game (record { place = v.place; tree = t; before = k }) → AreFound k.indices → HoldAtTests s i v.place t k
      go (Node (Find l) a b) k place stands sites cells site_cells own types tree late found =
          let r = stands refl in
          let q = place refl in
          let same : q.0 ≡ r.0 = one_context q.0 r.0 (sym q.1 ∙ r.1) in
          conditions_hold r.0 (first_place v.place (Find l)) k.indices k.memory a
          (subst (λ (Γ : Context). AreIndicesOf g k.indices Γ.replications) same (q.3 k.memory (grows_same k.memory)).indices) types sites site_cells (cells refl r.0 r.1) own
          (find_good s.declarations s.game v.place l a b r.0 ready.formed ready.typed (tree refl) r.1) r.2 r.3 found (find_late v.place l a b k late)
        where
          one_context : (Γ Δ : Context) → ◌≡◌ {A = Option Context} (Some Γ) (Some Δ) → Γ ≡ Δ
          one_context Γ Δ e = cc
      go t k place stands sites cells site_cells own types tree late found = tt

  pub all_tests_hold : (vs : List Visit) → AllByRecursion (PlaceStands g s.game) vs → AllByRecursion (CandidatesStand g s.game) vs → AllByRecursion (VisitSitesStand g s.game) vs → AllByRecursion (PlaceCellsBetween g s.game) vs → AllByRecursion (SiteCellsBetween g s.game) vs → AllByRecursion OwnUnassigned vs
      → AllByRecursion (VisitHas (IsSubtreeOrList s.game)) vs → AllByRecursion (HasTypes s.declarations s.game i) vs → AllByRecursion (LateAreUnassigned s.game) vs → AllByRecursion IsWellVisited vs → AllByRecursion (HoldAtConditions s i) vs
  all_tests_hold [] a b c d e f h k l w = tt
  all_tests_hold (v ∷ vs) a b c d e f h k l w = (
    tests_hold v (record { place = a.0; candidates = b.0; sites = c.0; cells = d.0; site_cells = e.0; own = f.0; tree = h.0; types = k.0; late = l.0; well = w.0 }),
    all_tests_hold vs a.1 b.1 c.1 d.1 e.1 f.1 h.1 k.1 l.1 w.1,
  )
