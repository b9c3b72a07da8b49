-- What stands above the places of a typed game names what it may.
use Rattle.std.proofs.Common.{◌≡◌, ℕ, ◌+◌, ◌-◌, Bool, true, false, cond, nat_lt, List, [], ◌∷◌, ◌++◌, ◌⊎◌, inl, inr, Some, refl, sym, subst}
use Rattle.std.proofs.lemmas.Bool.{both_ways, and_parts}
use Rattle.std.specs.List.{AllByRecursion}
use Rattle.cv_syntax_trees.specs.declared.head.Head.{Head}
use Rattle.cv_syntax_trees.specs.declared.head.Head.TheVariants.{Stop, Yield, Par, Repl, In, Out, Event, New, Let, If, Find, Branch, Leaf, Read, Apply, Eq, And, Or, Not, Yes, No, Cons, Binder, Name}
use Rattle.cv_syntax_trees.specs.Declarations.{Declaration}
use Rattle.cv_syntax_trees.specs.Head.{weight}
use Rattle.cv_syntax_trees.specs.Tree.{Tree, Empty, Node, second, size}
use Rattle.cv_meaning_laws.specs.adequacy.Typed as meaning
use Rattle.cv_meaning_laws.specs.adequacy.Typed.{AreBranches, AreVariables, HasSort, HaveSomeSorts, IsTyped, Scope}
use Rattle.cv_scope_rules.specs.declared.position.Position.{Position}
use Rattle.cv_scope_rules.specs.declared.position.Position.TheVariants as position
use Rattle.cv_scope_rules.specs.Context.{Context, cell_of, cells_of, first_position, item_position, items, nothing_known, rest_position, second_position}
use Rattle.cv_scope_rules.specs.Sites.{Variable}
use Rattle.cv_scope_rules.specs.Made.{made_by}
use Rattle.cv_scope_rules.specs.Phrases.{Phrase, Nil, Inputs, Body, Then, Else, Branches, Arm, Pattern, Message, Indices, Binders, Cells, OneCell, Terms, Term, is_phrase}
use Rattle.cv_scope_rules.specs.Behind.{in_body, in_condition, in_list}
use Rattle.cv_scope_rules.specs.Above.{first_standing, item_standing, rest_standing, second_standing, standing_at, stands_at, with_failed, with_held}
use Rattle.cv_typing_runs.specs.Games.{are_named, are_variable_cells, context_of, has_site}
use Rattle.cv_derive_laws.specs.reached.Fine.{IsFine, IsFineCell, IsFineTerm}
use Rattle.cv_derive_laws.proofs.reached.Leaves.{cells_fine, more_cell, more_fine, own_cell, own_term, sorted_fine, variable_fine}
use Rattle.cv_syntax_trees.proofs.lists.Each.{AllByRecursion_append, AllByRecursion_weaker}

-- what stands at the item and at the rest of a list is what stands above it
abbrev IsQuiet : Position → Type 0
IsQuiet position.Anywhere = Unit {0}
IsQuiet position.Cells = Unit {0}
IsQuiet position.OneCell = Unit {0}
IsQuiet w = ⊥

quiet_item : (w : Position) → IsQuiet w → IsQuiet (item_position w)
quiet_item position.Anywhere z = tt
quiet_item position.Cells z = tt
quiet_item position.OneCell z = tt
quiet_item w z = absurd z

quiet_rest : (w : Position) → IsQuiet w → IsQuiet (rest_position w)
quiet_rest position.Anywhere z = tt
quiet_rest position.Cells z = tt
quiet_rest position.OneCell z = tt
quiet_rest w z = absurd z

module _ (ds : List Declaration) (game : Tree) where
  abbrev c : meaning.Context
  c = context_of ds game

  abbrev Fine : Context → Type 0
  Fine Γ = IsFine ds game Γ

  -- with more cells and facts

  with_fact : (Γ : Context) (t : Tree) → IsFineTerm ds game Γ.replications t → Fine Γ → Fine (record Γ { facts = Γ.facts ++ t ∷ [] })
  with_fact Γ t h f = record { facts = AllByRecursion_append (IsFineTerm ds game Γ.replications) Γ.facts (t ∷ []) f.facts (h, tt); cells = f.cells; own = f.own; tested = f.tested }

  with_more : (Γ : Context) (cs : List Tree) → AllByRecursion (IsFineCell ds game Γ.replications) cs → Fine Γ → Fine (record Γ { cells = Γ.cells ++ cs })
  with_more Γ cs h f = record { facts = f.facts; cells = AllByRecursion_append (IsFineCell ds game Γ.replications) Γ.cells cs f.cells h; own = f.own; tested = f.tested }

  held : (Γ : Context) (t : Tree) → (t ≡ Empty) ⊎ IsFineTerm ds game Γ.replications t → Fine Γ → Fine (with_held Γ t)
  held Γ Empty h f = f
  held Γ (Node q a b) (inl e) f = absurd (cc)
  held Γ (Node q a b) (inr h) f = with_fact Γ (Node q a b) h f

  failed : (Γ : Context) (t : Tree) → (t ≡ Empty) ⊎ IsFineTerm ds game Γ.replications t → Fine Γ → Fine (with_failed Γ t)
  failed Γ Empty h f = f
  failed Γ (Node q a b) (inl e) f = absurd (cc)
  failed Γ (Node q a b) (inr h) f = with_fact Γ (Node Not (Node q a b) Empty) h f

  own_over : (Γ : Context) → Fine Γ → Fine (record Γ { cells = Γ.cells ++ Γ.own; own = [] })
  own_over Γ f = record { facts = f.facts; cells = AllByRecursion_append (IsFineCell ds game Γ.replications) Γ.cells Γ.own f.cells f.own; own = tt; tested = f.tested }

  below : (Γ : Context) (i n : ℕ) → Fine Γ → Fine (record Γ { replications = Γ.replications ++ (i, n) ∷ []; own = [] })
  below Γ i n f = record {
    facts = AllByRecursion_weaker (IsFineTerm ds game Γ.replications) _ (more_fine ds game Γ.replications ((i, n) ∷ [])) Γ.facts f.facts;
    cells = AllByRecursion_weaker (IsFineCell ds game Γ.replications) _ (more_cell ds game Γ.replications ((i, n) ∷ [])) Γ.cells f.cells;
    own = tt;
    tested = tested f.tested;
  }
    where
      tested : (Γ.tested ≡ Empty) ⊎ IsFineTerm ds game Γ.replications Γ.tested → (Γ.tested ≡ Empty) ⊎ IsFineTerm ds game (Γ.replications ++ (i, n) ∷ []) Γ.tested
      tested (inl e) = inl e
      tested (inr h) = inr (more_fine ds game Γ.replications ((i, n) ∷ []) Γ.tested h)

  bound_fine : (rs : Scope) (sort : ℕ → meaning.Sort) (us : Tree) → AreVariables c rs sort us → AllByRecursion (IsFineCell ds game rs) (cells_of rs us)
  bound_fine rs sort (Node (Binder x T) a b) h = (own_cell ds game rs x (variable_fine ds game rs x (sort T) h.0), bound_fine rs sort b h.1)
  bound_fine rs sort Empty h = tt
  bound_fine rs sort (Node q a b) h = tt

  -- terms, and what stands beside them, define nothing

  abbrev IsFlat : Phrase → Type 0
  IsFlat Nil = Unit {0}
  IsFlat Pattern = Unit {0}
  IsFlat Message = Unit {0}
  IsFlat Indices = Unit {0}
  IsFlat Binders = Unit {0}
  IsFlat Cells = Unit {0}
  IsFlat OneCell = Unit {0}
  IsFlat Terms = Unit {0}
  IsFlat Term = Unit {0}
  IsFlat σ = ⊥

  -- what is asked of a phrase in which definitions stand

  abbrev Means : Phrase → Scope → Tree → Type 0
  Means Branches rs t = AreBranches t × IsTyped c rs t
  Means Arm rs t = AreBranches (Node Cons t Empty) × IsTyped c rs t
  Means Inputs rs t = IsTyped c rs t
  Means Body rs t = IsTyped c rs t
  Means Then rs t = IsTyped c rs t
  Means Else rs t = IsTyped c rs t
  Means σ rs t = ⊥

  abbrev position_of : Phrase → Position
  position_of Then = position.Bodies
  position_of Else = position.ElseBody
  position_of Branches = position.Branches
  position_of σ = position.Anywhere

  abbrev AllStand : Position → Context → Tree → Type 0
  AllStand w Γ t = (p : ℕ) (Δ : Context) → standing_at w Γ t p ≡ Some Δ → Fine Δ

  item_fine : (w : Position) (Γ : Context) → IsQuiet w → Fine Γ → Fine (item_standing w Γ)
  item_fine position.Anywhere Γ z g = g
  item_fine position.Cells Γ z g = g
  item_fine position.OneCell Γ z g = g
  item_fine w Γ z g = absurd z

  rest_fine : (w : Position) (a : Tree) (Γ : Context) → IsQuiet w → Fine Γ → Fine (rest_standing w a Γ)
  rest_fine position.Anywhere a Γ z g = g
  rest_fine position.Cells a Γ z g = g
  rest_fine position.OneCell a Γ z g = g
  rest_fine w a Γ z g = absurd z

  nothing_stands : (w : Position) (Γ : Context) → AllStand w Γ Empty
  unfolding standing_at
  nothing_stands w Γ p Δ e = absurd (cc)

  stand_node : (w : Position) (Γ : Context) (h : Head) (a b : Tree) → Fine Γ → AllStand (first_position w h) (first_standing w h Γ) a → AllStand (second_position w h) (second_standing w h a Γ) b → AllStand w Γ (Node h a b)
  unfolding standing_at
  stand_node w Γ h a b f k l p Δ e = go (nat_lt p (weight h)) (nat_lt p (weight h + size a)) e
    where
      go : (x y : Bool) → cond x (Some Γ) (cond y (standing_at (first_position w h) (first_standing w h Γ) a (p - weight h)) (standing_at (second_position w h) (second_standing w h a Γ) b (p - (weight h + size a)))) ≡ Some Δ → Fine Δ
      go true y e = let q : Γ ≡ Δ = cc in subst Fine q f
      go false true e = k (p - weight h) Δ e
      go false false e = l (p - (weight h + size a)) Δ e

  nil_stands : (w : Position) (Γ : Context) (t : Tree) → is_phrase Nil t ≡ true → AllStand w Γ t
  unfolding is_phrase
  nil_stands w Γ Empty e = nothing_stands w Γ
  nil_stands w Γ (Node h a b) e = absurd (both_ways false refl e)

  flat_stands : (σ : Phrase) (w : Position) (Γ : Context) (t : Tree) → IsFlat σ → IsQuiet w → is_phrase σ t ≡ true → Fine Γ → AllStand w Γ t
  unfolding is_phrase
  flat_stands σ w Γ Empty f z e g = nothing_stands w Γ
  flat_stands Nil w Γ (Node h a b) f z e g = absurd (both_ways false refl e)
  flat_stands Pattern w Γ (Node Cons a b) f z e g =
      let q = and_parts (is_phrase Indices a) (is_phrase Binders b) e in
      stand_node w Γ Cons a b g (flat_stands Indices _ _ a tt (quiet_item w z) q.0 (item_fine w Γ z g)) (flat_stands Binders _ _ b tt (quiet_rest w z) q.1 (rest_fine w a Γ z g))
  flat_stands Message w Γ (Node Cons a b) f z e g =
      let q = and_parts (is_phrase Indices a) (is_phrase Terms b) e in
      stand_node w Γ Cons a b g (flat_stands Indices _ _ a tt (quiet_item w z) q.0 (item_fine w Γ z g)) (flat_stands Terms _ _ b tt (quiet_rest w z) q.1 (rest_fine w a Γ z g))
  flat_stands Indices w Γ (Node (Name x) a b) f z e g = let q = and_parts (is_phrase Nil a) (is_phrase Indices b) e in stand_node w Γ (Name x) a b g (flat_stands Nil _ _ a tt tt q.0 g) (flat_stands Indices _ _ b tt tt q.1 g)
  flat_stands Binders w Γ (Node (Binder x T) a b) f z e g = let q = and_parts (is_phrase Nil a) (is_phrase Binders b) e in stand_node w Γ (Binder x T) a b g (flat_stands Nil _ _ a tt tt q.0 g) (flat_stands Binders _ _ b tt tt q.1 g)
  flat_stands Cells w Γ (Node Cons a b) f z e g =
      let q = and_parts (is_phrase OneCell a) (is_phrase Cells b) e in
      stand_node w Γ Cons a b g (flat_stands OneCell _ _ a tt (quiet_item w z) q.0 (item_fine w Γ z g)) (flat_stands Cells _ _ b tt (quiet_rest w z) q.1 (rest_fine w a Γ z g))
  flat_stands OneCell w Γ (Node (Leaf x) a b) f z e g = let q = and_parts (is_phrase Nil a) (is_phrase Nil b) e in stand_node w Γ (Leaf x) a b g (flat_stands Nil _ _ a tt tt q.0 g) (flat_stands Nil _ _ b tt tt q.1 g)
  flat_stands OneCell w Γ (Node (Read x) a b) f z e g = let q = and_parts (is_phrase Terms a) (is_phrase Nil b) e in stand_node w Γ (Read x) a b g (flat_stands Terms _ _ a tt tt q.0 g) (flat_stands Nil _ _ b tt tt q.1 g)
  flat_stands Terms w Γ (Node Cons a b) f z e g =
      let q = and_parts (is_phrase Term a) (is_phrase Terms b) e in
      stand_node w Γ Cons a b g (flat_stands Term _ _ a tt (quiet_item w z) q.0 (item_fine w Γ z g)) (flat_stands Terms _ _ b tt (quiet_rest w z) q.1 (rest_fine w a Γ z g))
  flat_stands Term w Γ (Node (Leaf x) a b) f z e g = let q = and_parts (is_phrase Nil a) (is_phrase Nil b) e in stand_node w Γ (Leaf x) a b g (flat_stands Nil _ _ a tt tt q.0 g) (flat_stands Nil _ _ b tt tt q.1 g)
  flat_stands Term w Γ (Node (Read x) a b) f z e g = let q = and_parts (is_phrase Terms a) (is_phrase Nil b) e in stand_node w Γ (Read x) a b g (flat_stands Terms _ _ a tt tt q.0 g) (flat_stands Nil _ _ b tt tt q.1 g)
  flat_stands Term w Γ (Node (Apply x) a b) f z e g = let q = and_parts (is_phrase Terms a) (is_phrase Nil b) e in stand_node w Γ (Apply x) a b g (flat_stands Terms _ _ a tt tt q.0 g) (flat_stands Nil _ _ b tt tt q.1 g)
  flat_stands Term w Γ (Node Eq a b) f z e g = let q = and_parts (is_phrase Term a) (is_phrase Term b) e in stand_node w Γ Eq a b g (flat_stands Term _ _ a tt tt q.0 g) (flat_stands Term _ _ b tt tt q.1 g)
  flat_stands Term w Γ (Node And a b) f z e g = let q = and_parts (is_phrase Term a) (is_phrase Term b) e in stand_node w Γ And a b g (flat_stands Term _ _ a tt tt q.0 g) (flat_stands Term _ _ b tt tt q.1 g)
  flat_stands Term w Γ (Node Or a b) f z e g = let q = and_parts (is_phrase Term a) (is_phrase Term b) e in stand_node w Γ Or a b g (flat_stands Term _ _ a tt tt q.0 g) (flat_stands Term _ _ b tt tt q.1 g)
  flat_stands Term w Γ (Node Not a b) f z e g = let q = and_parts (is_phrase Term a) (is_phrase Nil b) e in stand_node w Γ Not a b g (flat_stands Term _ _ a tt tt q.0 g) (flat_stands Nil _ _ b tt tt q.1 g)
  flat_stands Term w Γ (Node Yes a b) f z e g = let q = and_parts (is_phrase Nil a) (is_phrase Nil b) e in stand_node w Γ Yes a b g (flat_stands Nil _ _ a tt tt q.0 g) (flat_stands Nil _ _ b tt tt q.1 g)
  flat_stands Term w Γ (Node No a b) f z e g = let q = and_parts (is_phrase Nil a) (is_phrase Nil b) e in stand_node w Γ No a b g (flat_stands Nil _ _ a tt tt q.0 g) (flat_stands Nil _ _ b tt tt q.1 g)
  flat_stands Pattern w Γ (Node h a b) f z e g = absurd (both_ways false refl e)
  flat_stands Message w Γ (Node h a b) f z e g = absurd (both_ways false refl e)
  flat_stands Indices w Γ (Node h a b) f z e g = absurd (both_ways false refl e)
  flat_stands Binders w Γ (Node h a b) f z e g = absurd (both_ways false refl e)
  flat_stands Cells w Γ (Node h a b) f z e g = absurd (both_ways false refl e)
  flat_stands OneCell w Γ (Node h a b) f z e g = absurd (both_ways false refl e)
  flat_stands Terms w Γ (Node h a b) f z e g = absurd (both_ways false refl e)
  flat_stands Term w Γ (Node h a b) f z e g = absurd (both_ways false refl e)
  flat_stands σ w Γ (Node h a b) f z e g = absurd f

  stands_fine : (σ : Phrase) (Γ : Context) (t : Tree) → is_phrase σ t ≡ true → Means σ Γ.replications t → are_named ds (has_site game) (position_of σ) t ≡ true → Fine Γ → AllStand (position_of σ) Γ t
  unfolding is_phrase IsTyped are_named
  stands_fine Inputs Γ (Node Stop a b) q h v f = let r = and_parts (is_phrase Nil a) (is_phrase Nil b) q in stand_node position.Anywhere Γ Stop a b f (nil_stands _ _ a r.0) (nil_stands _ _ b r.1)
  stands_fine Inputs Γ (Node Par a b) q h v f =
      let r = and_parts (is_phrase Inputs a) (is_phrase Inputs b) q in
      let z = and_parts (are_named ds (has_site game) position.Anywhere a) _ v in
      stand_node position.Anywhere Γ Par a b f (stands_fine Inputs Γ a r.0 h.0 z.0 f) (stands_fine Inputs Γ b r.1 h.1 z.1 f)
  stands_fine Inputs Γ (Node (Repl i n) a b) q h v f =
      let r = and_parts (is_phrase Nil a) (is_phrase Inputs b) q in
      let z = and_parts (are_named ds (has_site game) position.Anywhere a) _ v in
      stand_node position.Anywhere Γ (Repl i n) a b f (nil_stands _ _ a r.0) (stands_fine Inputs (record Γ { replications = Γ.replications ++ (i, n) ∷ []; own = [] }) b r.1 h z.1 (below Γ i n f))
  stands_fine Inputs Γ (Node (In x) a b) q h v f =
      let r = and_parts (is_phrase Pattern a) (is_phrase Body b) q in
      let z = and_parts (are_named ds (has_site game) position.Anywhere a) _ v in
      let k = with_more Γ (cells_of Γ.replications (second a)) (bound_fine Γ.replications meaning.OfType (second a) h.0) f in
      stand_node position.Anywhere Γ (In x) a b f (flat_stands Pattern _ _ a tt tt r.0 f) (stands_fine Body _ b r.1 h.1 z.1 k)
  stands_fine Inputs Γ t q h v f = absurd (both_ways false refl q)
  stands_fine Body Γ (Node Yield a b) q h v f = let r = and_parts (is_phrase Nil a) (is_phrase Nil b) q in stand_node position.Anywhere Γ Yield a b f (nil_stands _ _ a r.0) (nil_stands _ _ b r.1)
  stands_fine Body Γ (Node (Out x) a b) q h v f =
      let r = and_parts (is_phrase Message a) (is_phrase Inputs b) q in
      let z = and_parts (are_named ds (has_site game) position.Anywhere a) _ v in
      stand_node position.Anywhere Γ (Out x) a b f (flat_stands Message _ _ a tt tt r.0 f) (stands_fine Inputs Γ b r.1 h.1 z.1 f)
  stands_fine Body Γ (Node (New x T) a b) q h v f =
      let r = and_parts (is_phrase Nil a) (is_phrase Body b) q in
      let z = and_parts (are_named ds (has_site game) position.Anywhere a) _ v in
      let k = with_more Γ (cell_of Γ.replications x ∷ []) (own_cell ds game Γ.replications x (variable_fine ds game Γ.replications x (meaning.OfType T) h.0), tt) f in
      stand_node position.Anywhere Γ (New x T) a b f (nil_stands _ _ a r.0) (stands_fine Body _ b r.1 h.1 z.1 k)
  stands_fine Body Γ (Node (Let x T) a b) q h v f =
      let r = and_parts (is_phrase Term a) (is_phrase Body b) q in
      let z = and_parts (are_named ds (has_site game) position.Anywhere a) _ v in
      let there = variable_fine ds game Γ.replications x (meaning.OfType T) h.0 in
      let m = with_more Γ (cell_of Γ.replications x ∷ []) (own_cell ds game Γ.replications x there, tt) f in
      let k = with_fact (record Γ { cells = Γ.cells ++ cell_of Γ.replications x ∷ [] }) (Node Eq (cell_of Γ.replications x) a) (own_term ds game Γ.replications x there, sorted_fine ds game Γ.replications a (meaning.OfType T) r.0 h.1) m in
      stand_node position.Anywhere Γ (Let x T) a b f (flat_stands Term _ _ a tt tt r.0 f) (stands_fine Body _ b r.1 h.2 z.1 k)
  stands_fine Body Γ (Node (Event x) a b) q h v f =
      let r = and_parts (is_phrase Terms a) (is_phrase Body b) q in
      let z = and_parts (are_named ds (has_site game) position.Anywhere a) _ v in
      stand_node position.Anywhere Γ (Event x) a b f (flat_stands Terms _ _ a tt tt r.0 f)
      (stands_fine Body _ b r.1 h.1 z.1 (record { facts = f.facts; cells = f.cells; own = f.own; tested = f.tested }))
  stands_fine Body Γ (Node If a b) q h v f =
      let r = and_parts (is_phrase Term a) (is_phrase Then b) q in
      let z = and_parts (are_named ds (has_site game) position.Anywhere a) _ v in
      stand_node position.Anywhere Γ If a b f (flat_stands Term _ _ a tt tt r.0 f)
      (stands_fine Then _ b r.1 h.1 z.1 (record { facts = f.facts; cells = f.cells; own = f.own; tested = inr (sorted_fine ds game Γ.replications a meaning.boolean r.0 h.0) }))
  stands_fine Body Γ (Node (Find l) a b) q h v f =
      let r = and_parts (is_phrase Branches a) (is_phrase Body b) q in
      let z = and_parts (are_named ds (has_site game) position.Branches a) _ v in
      stand_node position.Anywhere Γ (Find l) a b f (stands_fine Branches Γ a r.0 (h.0, h.1) z.0 f) (stands_fine Body Γ b r.1 h.2 z.1 f)
  stands_fine Body Γ t q h v f = absurd (both_ways false refl q)
  stands_fine Then Γ (Node Cons a b) q h v f =
      let r = and_parts (is_phrase Body a) (is_phrase Else b) q in
      let z = and_parts (are_named ds (has_site game) position.Anywhere a) _ v in
      stand_node position.Bodies Γ Cons a b f (body (with_held Γ Γ.tested) (held_same Γ Γ.tested) (stands_fine Body (with_held Γ Γ.tested) a r.0) h.0 z.0 (held Γ Γ.tested f.tested f)) (stands_fine Else Γ b r.1 h.1 z.1 f)
    where
      held_same : (Γ : Context) (t : Tree) → (with_held Γ t).replications ≡ Γ.replications
      held_same Γ Empty = refl
      held_same Γ (Node k c d) = refl

      body : (Δ : Context) → Δ.replications ≡ Γ.replications → (IsTyped c Δ.replications a → are_named ds (has_site game) position.Anywhere a ≡ true → Fine Δ → AllStand position.Anywhere Δ a) → IsTyped c Γ.replications a → are_named ds (has_site game) position.Anywhere a ≡ true → Fine Δ → AllStand position.Anywhere Δ a
      body Δ e k h v f = k (subst (λ rs. IsTyped c rs a) (sym e) h) v f
  stands_fine Then Γ t q h v f = absurd (both_ways false refl q)
  stands_fine Else Γ (Node Cons a b) q h v f =
      let r = and_parts (is_phrase Body a) (is_phrase Nil b) q in
      let z = and_parts (are_named ds (has_site game) position.Anywhere a) _ v in
      stand_node position.ElseBody Γ Cons a b f (body (with_failed Γ Γ.tested) (failed_same Γ Γ.tested) (stands_fine Body (with_failed Γ Γ.tested) a r.0) h.0 z.0 (failed Γ Γ.tested f.tested f)) (nil_stands _ _ b r.1)
    where
      failed_same : (Γ : Context) (t : Tree) → (with_failed Γ t).replications ≡ Γ.replications
      failed_same Γ Empty = refl
      failed_same Γ (Node k c d) = refl

      body : (Δ : Context) → Δ.replications ≡ Γ.replications → (IsTyped c Δ.replications a → are_named ds (has_site game) position.Anywhere a ≡ true → Fine Δ → AllStand position.Anywhere Δ a) → IsTyped c Γ.replications a → are_named ds (has_site game) position.Anywhere a ≡ true → Fine Δ → AllStand position.Anywhere Δ a
      body Δ e k h v f = k (subst (λ rs. IsTyped c rs a) (sym e) h) v f
  stands_fine Else Γ t q h v f = absurd (both_ways false refl q)
  stands_fine Branches Γ Empty q h v f = nothing_stands position.Branches Γ
  stands_fine Branches Γ (Node Cons (Node Branch us rest) b) q h v f =
      let r = and_parts (is_phrase Arm (Node Branch us rest)) (is_phrase Branches b) q in
      let z = and_parts (are_named ds (has_site game) position.Anywhere (Node Branch us rest)) _ v in
      stand_node position.Branches Γ Cons (Node Branch us rest) b f (stands_fine Arm Γ (Node Branch us rest) r.0 (tt, h.1.0) z.0 f) (stands_fine Branches Γ b r.1 (h.0, h.1.1) z.1 f)
  stands_fine Branches Γ t q h v f = absurd (both_ways false refl q)
  stands_fine Arm Γ (Node Branch us (Node Cons cells (Node Cons test body))) q h v f =
      let r = and_parts (is_phrase Binders us) _ q in
      let o = and_parts (is_phrase Cells cells) _ r.1 in
      let l = and_parts (is_phrase Term test) (is_phrase Body body) o.1 in
      let z = and_parts (are_named ds (has_site game) position.Anywhere us) _ v in
      let w = and_parts (are_variable_cells (has_site game) cells) _ z.1 in
      let x = and_parts (are_named ds (has_site game) position.Cells cells) _ w.1 in
      let k = and_parts (are_named ds (has_site game) position.Anywhere test) _ x.1 in
      let list = listed (bound_fine Γ.replications meaning.BelowParameter us h.1.0) in
      let guard = with_more (in_list Γ us) (items cells) (cells_fine ds game Γ.replications cells h.1.1.0 o.0 h.1.1.1 w.0) list in
      let last = held (record (in_condition Γ us cells) { cells = (in_condition Γ us cells).cells ++ cells_of Γ.replications us; own = [] }) test (inr (sorted_fine ds game Γ.replications test meaning.boolean l.0 h.1.2)) (own_over (in_condition Γ us cells) guard) in
      stand_node position.Anywhere Γ Branch us (Node Cons cells (Node Cons test body)) f (flat_stands Binders _ _ us tt tt r.0 f)
      (stand_node position.Guards (in_list Γ us) Cons cells (Node Cons test body) list (flat_stands Cells _ _ cells tt tt o.0 list)
      (stand_node position.Guarded (in_condition Γ us cells) Cons test body guard (flat_stands Term _ _ test tt tt l.0 guard)
      (in_body_law (in_body Γ us cells test) (held_same (record (in_condition Γ us cells) { cells = (in_condition Γ us cells).cells ++ cells_of Γ.replications us; own = [] }) test)
      (stands_fine Body (in_body Γ us cells test) body l.1) h.1.3.1.1 k.1 last)))
    where
      listed : AllByRecursion (IsFineCell ds game Γ.replications) (cells_of Γ.replications us) → Fine (in_list Γ us)
      listed o = record { facts = f.facts; cells = f.cells; own = o; tested = f.tested }

      held_same : (Δ : Context) (t : Tree) → (with_held Δ t).replications ≡ Δ.replications
      held_same Δ Empty = refl
      held_same Δ (Node k c d) = refl

      in_body_law : (Δ : Context) → Δ.replications ≡ Γ.replications → (IsTyped c Δ.replications body → are_named ds (has_site game) position.Anywhere body ≡ true → Fine Δ → AllStand position.Anywhere Δ body) → IsTyped c Γ.replications body → are_named ds (has_site game) position.Anywhere body ≡ true → Fine Δ
          → AllStand position.Anywhere Δ body
      in_body_law Δ e k h v f = k (subst (λ rs. IsTyped c rs body) (sym e) h) v f
  stands_fine Arm Γ (Node Branch us (Node Cons cells Empty)) q h v f = absurd (both_ways false refl (and_parts (is_phrase Cells cells) false (and_parts (is_phrase Binders us) _ q).1).1)
  stands_fine Arm Γ (Node Branch us (Node Cons cells (Node k x z))) q h v f = absurd (both_ways false refl (and_parts (is_phrase Cells cells) false (and_parts (is_phrase Binders us) _ q).1).1)
  stands_fine Arm Γ (Node Branch us Empty) q h v f = absurd (both_ways false refl (and_parts (is_phrase Binders us) false q).1)
  stands_fine Arm Γ (Node Branch us (Node k x z)) q h v f = absurd (both_ways false refl (and_parts (is_phrase Binders us) false q).1)
  stands_fine Arm Γ t q h v f = absurd (both_ways false refl q)
  stands_fine σ Γ t q h v f = absurd h

  pub places_fine : is_phrase Inputs game ≡ true → IsTyped c [] game → are_named ds (has_site game) position.Anywhere game ≡ true → (p : ℕ) (Γ : Context) → stands_at game p ≡ Some Γ → Fine Γ
  places_fine q h v = stands_fine Inputs nothing_known game q h v (record { facts = tt; cells = tt; own = tt; tested = inl refl })
