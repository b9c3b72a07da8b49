-- A directory of a game lists the sites of its variables.
use Rattle.std.proofs.Common.{◌≡◌, ℕ, Bool, true, false, cond, ◌||◌, ◌==◌, List, [], ◌∷◌, ◌++◌, map, Option, Some, None, refl, sym, ap, ap₂, subst, ◌∙◌, eqb-true, eq-eqb, ne_eqb, arith, length}
use Rattle.std.specs.Prelude.{min, option_map, slice_get}
use Rattle.std.specs.List.{AllByRecursion}
use Rattle.std.proofs.lemmas.Bool.{both_ways, and_parts, or_parts}
use Rattle.std.proofs.lemmas.List.{length-map, map-append}
use Rattle.cv_syntax.specs.faults.Walk.{IsObeyed}
use Rattle.cv_syntax_trees.specs.declared.head.Head.{Head}
use Rattle.cv_syntax_trees.specs.declared.head.Head.TheVariants.{Repl, In, New, Let, Branch, Binder, Cons, Key, Call}
use Rattle.cv_syntax_trees.specs.Declarations.{Declaration}
use Rattle.cv_syntax_trees.specs.Tree.{Tree, Empty, Node, second, first_place, second_place}
use Rattle.cv_syntax_trees.specs.declared.sites.sort.Sort.{Sort}
use Rattle.cv_syntax_trees.specs.declared.sites.sort.Sort.TheVariants.{OfType, BelowParameter}
use Rattle.cv_directory.specs.Definitions as directory
use Rattle.cv_directory.specs.Definitions.{Definition, bound_definitions, definitions_at, definitions_from, definitions_of}
use Rattle.cv_scope_rules.specs.declared.fault.Fault.TheVariants as fault
use Rattle.cv_scope_rules.specs.declared.position.Position.{Position}
use Rattle.cv_scope_rules.specs.declared.position.Position.TheVariants.{Anywhere, Guarded}
use Rattle.cv_scope_rules.specs.Branches.{Pairs}
use Rattle.cv_scope_rules.specs.Ranges.{EndBy}
use Rattle.cv_scope_rules.specs.Context.{Context, first_position, nothing_known, replications_below, second_position}
use Rattle.cv_scope_rules.specs.Rules.{MayStand, Names}
use Rattle.cv_scope_rules.specs.Scope.{IsScopedAt, names_of}
use Rattle.cv_scope_rules.specs.Sites.{Variable, named_here, site_of, variable_sites}
use Rattle.cv_scope_rules.specs.Standing as scope
use Rattle.cv_scope_rules.specs.Standing.{Standing, at_root}
use Rattle.cv_scope_rules.proofs.Apart as apart
use Rattle.cv_scope_rules.proofs.Apart.{IsApart, IsBefore, before_first, before_second, past_end, stand_apart}
use Rattle.cv_scope_rules.specs.Made.{is_bound, made_by}
use Rattle.cv_scope_rules.specs.Phrases as phrase
use Rattle.cv_scope_rules.specs.Phrases.{Phrase, Inputs, Body, Arm, Pattern, Binders, Indices, Nil, is_phrase, parts, both_are, IsWellFormed}
use Rattle.cv_derive_facts.specs.Definitions.{site_entry, definition_entry}
use Rattle.cv_scope_rules.specs.Behind.{behind_site, in_condition, sites_in, sites_of}
use Rattle.cv_scope_rules.specs.Above.{first_standing, second_standing}
use Rattle.cv_derive_facts.proofs.Flat.{Some_injective}
use Rattle.cv_derive_facts.proofs.Standings.{first_replications, second_replications}
use Rattle.cv_syntax_trees.proofs.lists.Options.{none_some}

-- a definition of the directory, and a site, at a place below replications
module _ (p x : ℕ) (rs : List (ℕ × ℕ)) where
  same_test : (y : ℕ) → (y == x) ≡ (x == y)
  same_test y = go (y == x) refl
    where
      go : (b : Bool) → (y == x) ≡ b → (y == x) ≡ (x == y)
      go true e = e ∙ sym (eq-eqb x y (sym (eqb-true y x e)))
      go false e = e ∙ sym (ne_eqb x y (λ f. both_ways (y == x) e (eq-eqb y x (sym f))))

  one_entry : (b : Bool) (t : Tree) (S : Sort) → map definition_entry (cond b (directory.definition_at rs p t S ∷ []) []) ≡ cond b ((p, rs) ∷ []) []
  one_entry true t S = refl
  one_entry false t S = refl

  one_site : (b : Bool) (Δ : Context) → Δ.replications ≡ rs → map site_entry (cond b ((p, Δ) ∷ []) []) ≡ cond b ((p, rs) ∷ []) []
  one_site true Δ e = ap (λ r. (p, r) ∷ []) e
  one_site false Δ e = refl

  named_entry : (y : ℕ) (t : Tree) (S : Sort) (Δ : Context) → Δ.replications ≡ rs → map definition_entry (cond (y == x) (directory.definition_at rs p t S ∷ []) []) ≡ map site_entry (cond (x == y) ((p, Δ) ∷ []) [])
  named_entry y t S Δ e = one_entry (y == x) t S ∙ (ap (λ b. cond b ((p, rs) ∷ []) []) (same_test y) ∙ sym (one_site (x == y) Δ e))

  -- a list of binders, no two of which bind one variable

  absent_binder : (passed : List (ℕ × ℕ)) (l : Tree) → EndBy p passed → AllByRecursion (IsApart passed (site_of rs p (Variable x))) (variable_sites rs p l) → is_bound l x ≡ false
  unfolding is_bound
  absent_binder passed Empty e a = refl
  absent_binder passed (Node (Binder y T) c d) e a = ap₂ (λ u v. u || v) (ne_eqb x y (λ f. past_end passed p p e (omega arith) (a.0 (ap Variable f)).0)) (absent_binder passed d e a.1)
  absent_binder passed (Node h c d) e a = refl

  absent_definitions : (t : Tree) (sort : ℕ → Sort) (l : Tree) → is_phrase Binders l ≡ true → is_bound l x ≡ false → bound_definitions rs p t sort x l ≡ []
  unfolding bound_definitions is_bound is_phrase
  absent_definitions t sort Empty f e = refl
  absent_definitions t sort (Node (Binder y T) c d) f e =
      let n = or_parts (x == y) (is_bound d x) e in
      ap (λ b. (cond b (directory.definition_at rs p t (sort T) ∷ []) []) ++ bound_definitions rs p t sort x d) (same_test y ∙ n.0) ∙ absent_definitions t sort d (and_parts (is_phrase Nil c) (is_phrase Binders d) f).1 n.1
  absent_definitions t sort (Node h c d) f e = absurd (both_ways _ refl f)

  bound_entries : (passed : List (ℕ × ℕ)) (t : Tree) (sort : ℕ → Sort) (l : Tree) → EndBy p passed → Pairs (IsApart passed) (variable_sites rs p l) → is_phrase Binders l ≡ true → map definition_entry (bound_definitions rs p t sort x l) ≡ cond (is_bound l x) ((p, rs) ∷ []) []
  unfolding bound_definitions is_bound is_phrase
  bound_entries passed t sort Empty e a f = refl
  bound_entries passed t sort (Node (Binder y T) c d) e a f =
      let rest = (and_parts (is_phrase Nil c) (is_phrase Binders d) f).1 in
      ap (λ b. map definition_entry ((cond b (directory.definition_at rs p t (sort T) ∷ []) []) ++ bound_definitions rs p t sort x d)) (same_test y)
      ∙ go (x == y) refl rest (bound_entries passed t sort d e a.1 rest)
    where
      go : (b : Bool) → (x == y) ≡ b → is_phrase Binders d ≡ true → map definition_entry (bound_definitions rs p t sort x d) ≡ cond (is_bound d x) ((p, rs) ∷ []) []
          → map definition_entry ((cond b (directory.definition_at rs p t (sort T) ∷ []) []) ++ bound_definitions rs p t sort x d) ≡ cond (b || is_bound d x) ((p, rs) ∷ []) []
      go true g rest i =
          let same : x ≡ y = eqb-true x y g in
          ap (λ l. (p, rs) ∷ map definition_entry l) (absent_definitions t sort d rest (absent_binder passed d e (subst (λ z. AllByRecursion (IsApart passed (site_of rs p (Variable z))) (variable_sites rs p d)) (sym same) a.0)))
      go false g rest i = i
  bound_entries passed t sort (Node h c d) e a f = absurd (both_ways _ refl f)

-- the replications at a site are those above it

held_replications : (Γ : Context) (t : Tree) → (second_standing Guarded Cons t Γ).replications ≡ Γ.replications
held_replications Γ t = second_replications Guarded Cons t Γ

branch_replications : (us b : Tree) (Γ : Context) → (behind_site Branch us b Γ).replications ≡ Γ.replications
branch_replications us Empty Γ = refl
branch_replications us (Node h cells Empty) Γ = refl
branch_replications us (Node h cells (Node k c body)) Γ = held_replications (in_condition Γ us cells) c

below_same : (h : Head) (rs : List (ℕ × ℕ)) → directory.replications_below h rs ≡ replications_below h rs
below_same (Repl i n) rs = refl
below_same h rs = refl

-- the parts of a game

has_plain_parts : (σ : Phrase) (h : Head) (a b : Tree) → is_phrase σ (Node h a b) ≡ true → (q : Phrase × Phrase) × (parts σ h ≡ Some q) × (is_phrase q.0 a ≡ true) × (is_phrase q.1 b ≡ true)
unfolding is_phrase
has_plain_parts σ h a b f = go (parts σ h) refl f
  where
    go : (o : Option (Phrase × Phrase)) → parts σ h ≡ o → both_are o (λ τ. is_phrase τ a) (λ ρ. is_phrase ρ b) ≡ true → (q : Phrase × Phrase) × (parts σ h ≡ Some q) × (is_phrase q.0 a ≡ true) × (is_phrase q.1 b ≡ true)
    go None e z = absurd (both_ways _ refl z)
    go (Some q) e z = let r = and_parts (is_phrase q.0 a) (is_phrase q.1 b) z in (q, e, r.0, r.1)

input_parts : (σ : Phrase) (c : ℕ) (q : Phrase × Phrase) → parts σ (In c) ≡ Some q → q.0 ≡ Pattern
input_parts Inputs c q e = ap (λ (r : Phrase × Phrase). r.0) (sym (Some_injective (Pattern, Body) q e))
input_parts Nil c q e = absurd (none_some q e)
input_parts σ c q e = absurd (none_some q e)

arm_binders : (σ : Phrase) (q : Phrase × Phrase) → parts σ Branch ≡ Some q → q.0 ≡ Binders
arm_binders Arm q e = ap (λ (r : Phrase × Phrase). r.0) (sym (Some_injective (Binders, phrase.Guards) q e))
arm_binders Nil q e = absurd (none_some q e)
arm_binders σ q e = absurd (none_some q e)

no_key : (σ : Phrase) (x : ℕ) (q : Phrase × Phrase) → parts σ (Key x) ≡ Some q → ⊥
no_key Nil x q e = none_some q e
no_key Body x q e = none_some q e
no_key σ x q e = none_some q e

no_call : (σ : Phrase) (x l : ℕ) (q : Phrase × Phrase) → parts σ (Call x l) ≡ Some q → ⊥
no_call Nil x l q e = none_some q e
no_call Body x l q e = none_some q e
no_call σ x l q e = none_some q e

pattern_binders : (a : Tree) → is_phrase Pattern a ≡ true → is_phrase Binders (second a) ≡ true
unfolding is_phrase
pattern_binders Empty f = absurd (both_ways _ refl f)
pattern_binders (Node Cons indices bs) f = (and_parts (is_phrase Indices indices) (is_phrase Binders bs) f).1
pattern_binders (Node h a b) f = absurd (both_ways _ refl f)

-- what a node itself defines

module _ (x : ℕ) (names : Names) (s : Standing) (before : IsBefore s) (Γ : Context) (same : Γ.replications ≡ s.known.replications) where
  here : (σ : Phrase) (h : Head) (a b : Tree) (q : Phrase × Phrase) → parts σ h ≡ Some q → is_phrase q.0 a ≡ true → MayStand s.passed s.sites (named_here Γ.replications s.place h a)
      → map definition_entry (definitions_at Γ.replications s.place (Node h a b) x h a) ≡ map site_entry (cond (made_by h a (Variable x)) ((s.place, behind_site h a b Γ) ∷ []) [])
  here σ (New y T) a b q e f m = named_entry s.place x Γ.replications y (Node (New y T) a b) (OfType T) (behind_site (New y T) a b Γ) refl
  here σ (Let y T) a b q e f m = named_entry s.place x Γ.replications y (Node (Let y T) a b) (OfType T) (behind_site (Let y T) a b Γ) refl
  here σ (In c) a b q e f m =
      bound_entries s.place x Γ.replications s.passed (Node (In c) a b) OfType (second a) before.passed (stand_apart s.passed (variable_sites Γ.replications s.place (second a)) s.sites m).1 (pattern_binders a (subst (λ τ. is_phrase τ a ≡ true) (input_parts σ c q e) f))
      ∙ sym (one_site s.place x Γ.replications (is_bound (second a) x) (behind_site (In c) a b Γ) refl)
  here σ Branch a b q e f m =
      bound_entries s.place x Γ.replications s.passed (Node Branch a b) BelowParameter a before.passed (stand_apart s.passed (variable_sites Γ.replications s.place a) s.sites m).1 (subst (λ τ. is_phrase τ a ≡ true) (arm_binders σ q e) f)
      ∙ sym (one_site s.place x Γ.replications (is_bound a x) (behind_site Branch a b Γ) (branch_replications a b Γ))
  here σ (Key y) a b q e f m = absurd (no_key σ y q e)
  here σ (Call y l) a b q e f m = absurd (no_call σ y l q e)
  here σ h a b q e f m = refl

module _ (x : ℕ) (names : Names) where
  entries : (σ : Phrase) (t : Tree) (s : Standing) (w : Position) (Γ : Context) → IsScopedAt names s t → IsBefore s → Γ.replications ≡ s.known.replications → is_phrase σ t ≡ true
      → map definition_entry (definitions_from Γ.replications s.place x t) ≡ map site_entry (sites_in x w Γ s.place t)
  unfolding IsObeyed definitions_from sites_in
  entries σ Empty s w Γ i m e f = refl
  entries σ (Node h a b) s w Γ i m e f =
      let q = has_plain_parts σ h a b f in
      let Δ = first_standing w h Γ in
      let Θ = second_standing w h a Γ in
      let first-same : Δ.replications ≡ Γ.replications = first_replications w h Γ in
      let second-same : Θ.replications ≡ directory.replications_below h Γ.replications = second_replications w h a Γ ∙ sym (below_same h Γ.replications) in
      map-append definition_entry (definitions_at Γ.replications s.place (Node h a b) x h a) _
      ∙ (ap₂ (λ k l. k ++ l) (here x names s m Γ e σ h a b q.0 q.1 q.2 (subst (λ rs. MayStand s.passed s.sites (named_here rs s.place h a)) (sym e) (i.0 fault.TwoSites)))
      (map-append definition_entry (definitions_from Γ.replications (first_place s.place h) x a) _
      ∙ (ap₂ (λ k l. k ++ l)
      (ap (λ rs. map definition_entry (definitions_from rs (first_place s.place h) x a)) (sym first-same)
      ∙ entries q.0.0 a (scope.first_standing s h a) (first_position w h) Δ i.1 (before_first s h a m) (first-same ∙ (e ∙ sym (apart.first_replications s.position h s.known))) q.2)
      (ap (λ rs. map definition_entry (definitions_from rs (second_place s.place h a) x b)) (sym second-same)
      ∙ entries q.0.1 b (scope.second_standing s h a) (second_position w h) Θ i.2 (before_second s h a m) (second_replications w h a Γ ∙ (ap (replications_below h) e ∙ sym (apart.second_replications s.position h a s.known))) q.3)
      ∙ sym (map-append site_entry (sites_in x (first_position w h) Δ (first_place s.place h) a) _)))
      ∙ sym (map-append site_entry (cond (made_by h a (Variable x)) ((s.place, behind_site h a b Γ) ∷ []) []) _))

pub directory_sites : (ds : List Declaration) (game : Tree) (x : ℕ) → IsWellFormed ds game → map definition_entry (definitions_of game x) ≡ map site_entry (sites_of game x)
directory_sites ds game x w = entries x (names_of ds game) Inputs game at_root Anywhere nothing_known w.scoped (record { sites = tt; passed = tt }) refl w.phrase

pub count_sites : (ds : List Declaration) (large : ℕ → Bool) (game : Tree) (x : ℕ) → IsWellFormed ds game → (directory.entries_of large game).count x ≡ min (length (sites_of game x)) directory.most
count_sites ds large game x w =
    let e : length (definitions_of game x) ≡ length (sites_of game x) = sym (length-map (definitions_of game x) definition_entry) ∙ (ap length (directory_sites ds game x w) ∙ length-map (sites_of game x) site_entry) in
    ap (λ n. min n directory.most) e

first_entry : (ds : List Definition) → option_map definition_entry (directory.first_in ds) ≡ slice_get (map definition_entry ds) 0
first_entry [] = refl
first_entry (d ∷ ds) = refl

pub first_sites : (ds : List Declaration) (large : ℕ → Bool) (game : Tree) (x : ℕ) → IsWellFormed ds game → option_map definition_entry ((directory.entries_of large game).first x) ≡ slice_get (map site_entry (sites_of game x)) 0
first_sites ds large game x w = first_entry (definitions_of game x) ∙ ap (λ l. slice_get l 0) (directory_sites ds game x w)
