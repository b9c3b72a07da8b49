-- A cell that a right line at a visited place says to be defined reads what is assigned, so its index terms keep their values.
use Rattle.std.proofs.Common.{◌≡◌, ℕ, ◌+◌, Bool, true, false, cond, ◌&&◌, ◌||◌, ◌==◌, not, List, [], ◌∷◌, map, ◌⊎◌, inl, inr, Option, Some, None, is_some, refl, sym, ap, ap₂, subst, ◌∙◌}
use Rattle.std.specs.Prelude.{option_and_then}
use Rattle.std.proofs.lemmas.Bool.{and_parts, both_ways}
use Rattle.std.specs.List.{AllByRecursion, list_any}
use Rattle.cv_syntax_trees.specs.declared.head.Head.TheVariants as head
use Rattle.cv_syntax_trees.specs.declared.head.Head.TheVariants.{And, Apply, Cons, Eq, Leaf, No, Not, Or, Read, Yes}
use Rattle.cv_syntax_trees.specs.Declarations.{Declaration}
use Rattle.cv_syntax_trees.specs.Tree.{Tree, Empty, Node, first, same_tree}
use Rattle.cv_syntax_trees.proofs.Equality.{same_tree_exact}
use Rattle.cv_syntax.specs.Layouts.{IsSyntax}
use Rattle.cv_syntax.proofs.faults.First.{none_first}
use Rattle.cv_meaning.specs.Interpretation.{Interpretation, Setting, setting_of}
use Rattle.cv_meaning.specs.Memory.{Indices, Store, tuple}
use Rattle.cv_meaning.specs.Terms.{bit, found_in, is_one, leaf_value, leaf_value_from, or_zero, value, values}
use Rattle.cv_meaning.specs.Candidates.{is_assigned}
use Rattle.cv_meaning.specs.Serving.{Visit}
use Rattle.cv_path.specs.declared.place.Lies.{Lies}
use Rattle.cv_path.specs.declared.place.Lies.TheVariants.{Here, Within, Behind}
use Rattle.cv_path.specs.Places.{LiesAt}
use Rattle.cv_path.proofs.Bounds.{lies_somewhere}
use Rattle.cv_syntax_trees.specs.sites.Sites.{first_of}
use Rattle.cv_scope_rules.specs.declared.position.Position.{Position}
use Rattle.cv_scope_rules.specs.declared.position.Position.TheVariants.{Anywhere}
use Rattle.cv_scope_rules.specs.Above.{first_standing, second_standing, standing_at, stands_at}
use Rattle.cv_scope_rules.specs.Behind.{sites_of}
use Rattle.cv_scope_rules.specs.Context.{Context, context_at, first_context, first_position, nothing_known, second_context, second_position}
use Rattle.cv_scope_rules.specs.Phrases.{Nil, OneCell, Term, Terms, is_phrase}
use Rattle.cv_scope_rules.specs.Scope.{is_variable}
use Rattle.cv_scope_runs.specs.Promises.{after_site}
use Rattle.cv_scope_runs.proofs.Contexts.{CellHolds, constant_none, variable_none}
use Rattle.cv_scope_runs.proofs.Games.{Game}
use Rattle.cv_scope_runs.proofs.PathRuns.{SiteHolds}
use Rattle.cv_scope_runs.proofs.ServeRuns.{VisitHolds}
use Rattle.cv_scope_runs.proofs.Standing.{stands_definition, stands_known}
use Rattle.cv_scope_runs.proofs.TermsLater.{AllReadable, LeafReads, Readable, cell, constant, index, some_of}
use Rattle.cv_typing_runs.proofs.Terms.{nil_empty}
use Rattle.cv_derive_facts.specs.Definitions.{IsBehind, behind_at}
use Rattle.cv_derive_facts.proofs.Covering.{Covers, first_covers, known_behind, known_empty, known_here, known_within, same_covers, second_covers}
use Rattle.cv_derive_facts.proofs.Standings.{standing_behind, standing_here, standing_within}
use Rattle.cv_scene.specs.lines.Given.{or_node, term_for, with_given}
use Rattle.cv_scene.specs.lines.Inferences.{Visible, cell_in, cited_cell, cited_term, number_of, term_in}
use Rattle.cv_scene.specs.lines.Lines.{By, Cases, End, Holds, IsDefined, Lines, Statement, count, lines_of, statements}
use Rattle.cv_scene.specs.lines.Truths.{no}
use Rattle.cv_scene.specs.Derivations.{first_bad, first_bad_line, is_right_split, nothing_visible, unless, with_line}
use Rattle.cv_scene.specs.Reasons.{is_reason_of_cell, is_right}
use Rattle.cv_scene.specs.Scenes.{Scene}
use Rattle.cv_scene.specs.Sights.{Sight, at_cell, at_site, cells_by, is_typed, only_site, sight_at, site_cells}
use Rattle.cv_derive_laws.specs.reached.Fine.{IsFine, IsFineCell, IsNamed}
use Rattle.cv_derive_laws.specs.stores.Truth.{AreOver, IsOver, IsTrue}
use Rattle.cv_derive_laws.proofs.Substitution.{names_of}
use Rattle.cv_derive_laws.proofs.Truths.{nought_one}
use Rattle.cv_derive_laws.proofs.reached.Reached.{index_names}
use Rattle.cv_syntax_trees.proofs.lists.Options.{none_some, some_injective, some_none}
use Rattle.cv_syntax_trees.proofs.lists.Tests.{or_cases}
use Rattle.cv_query_laws.proofs.correspondences.Sites.{only_site_covers}

-- what is true of what is known at a place is true of what stands there
module _ (P Q : Tree → Type 0) where
  place_covers : (w : Position) (Γ Δ : Context) (t : Tree) (p : ℕ) (Θ Λ : Context) → Covers P Q Γ Δ → context_at w Γ t p ≡ Some Θ → standing_at w Δ t p ≡ Some Λ → Covers P Q Θ Λ
  place_covers w Γ Δ Empty p Θ Λ c e f = absurd (none_some Θ (sym (known_empty w Γ p) ∙ e))
  place_covers w Γ Δ (Node h a b) p Θ Λ c e f =
      go (lies_somewhere h a p)
      (λ q. place_covers (first_position w h) (first_context w h Γ) (first_standing w h Δ) a q Θ Λ (first_covers P Q w h Γ Δ c))
      (λ q. place_covers (second_position w h) (second_context w h a Γ) (second_standing w h a Δ) b q Θ Λ (second_covers P Q w h a Γ Δ c))
    where
      go : (l : Lies) × LiesAt h a p l → ((q : ℕ) → context_at (first_position w h) (first_context w h Γ) a q ≡ Some Θ → standing_at (first_position w h) (first_standing w h Δ) a q ≡ Some Λ → Covers P Q Θ Λ)
          → ((q : ℕ) → context_at (second_position w h) (second_context w h a Γ) b q ≡ Some Θ → standing_at (second_position w h) (second_standing w h a Δ) b q ≡ Some Λ → Covers P Q Θ Λ) → Covers P Q Θ Λ
      go (Here, l) i j =
          let x : Γ ≡ Θ = some_injective (sym (known_here w Γ h a b p 0 l) ∙ e) in
          let y : Δ ≡ Λ = some_injective (sym (standing_here w Δ (Node h a b) h a b p 0 refl l) ∙ f) in
          subst (λ (z : Context × Context). Covers P Q z.0 z.1) (λ k. (x k, y k)) c
      go (Within q, l) i j = i q (sym (known_within w Γ h a b p q l) ∙ e) (sym (standing_within w Δ (Node h a b) h a b p q refl l) ∙ f)
      go (Behind q, l) i j = j q (sym (known_behind w Γ h a b p q l) ∙ e) (sym (standing_behind w Δ (Node h a b) h a b p q refl l) ∙ f)

-- terms that read what is assigned, for indices

data IsGiven (g : Setting) (variable : ℕ → Bool) (at : Indices) (m : Store) : Option Tree → Option ℕ → Type 0 where
  absent : IsGiven g variable at m None None
  present : {t : Tree} {v : ℕ} → value g at m t ≡ v → Readable g variable at m t → IsGiven g variable at m (Some t) (Some v)

module _ (g : Setting) (variable : ℕ → Bool) (at : Indices) (m : Store) where
  given : (ix : Indices) (terms : Tree) → values g at m terms ≡ tuple ix → AllReadable g variable at m terms → (x : ℕ) → IsGiven g variable at m (term_for (names_of ix) terms x) (found_in ix x)
  unfolding values
  given [] terms e r x = absent
  given (p ∷ ix) Empty e r x = absurd (none e)
    where
      none : [] ≡ p.1 ∷ tuple ix → ⊥
      none k = cc
  given (p ∷ ix) (Node h a b) e r x =
      let one : value g at m a ≡ p.1 = cc in
      let more : values g at m b ≡ tuple ix = cc in
      go (p.0 == x) one (given ix b more r.1 x)
    where
      go : (c : Bool) → value g at m a ≡ p.1 → IsGiven g variable at m (term_for (names_of ix) b x) (found_in ix x) → IsGiven g variable at m (cond c (Some a) (term_for (names_of ix) b x)) (cond c (Some p.1) (found_in ix x))
      go true k i = present k r.0
      go false k i = i

  -- put into a term that reads what is assigned, they leave its value, and it reads what is assigned

  module _ (constants : (x : ℕ) → g.is_constant x ≡ true → found_in at x ≡ None) (variables : (x : ℕ) → variable x ≡ true → found_in at x ≡ None) (ix : Indices) (terms : Tree) (same : values g at m terms ≡ tuple ix) (readable : AllReadable g variable at m terms) where
    abbrev put : Tree → Tree
    put t = with_given (names_of ix) terms t

    leaf_same : (x : ℕ) (a b : Tree) → LeafReads g variable ix m x → value g at m (or_node (term_for (names_of ix) terms x) (Leaf x) a b) ≡ leaf_value g ix m x
    unfolding value
    leaf_same x a b l = go (term_for (names_of ix) terms x) (found_in ix x) refl (given ix terms same readable x) l
      where
        go : (o : Option Tree) (q : Option ℕ) → found_in ix x ≡ q → IsGiven g variable at m o q → LeafReads g variable ix m x → value g at m (or_node o (Leaf x) a b) ≡ leaf_value_from g m x (found_in ix x)
        go None (Some v) e i l = elim i [ ]
        go (Some t) None e i l = elim i [ ]
        go (Some t) (Some v) e (present k r) l = k ∙ sym (ap (leaf_value_from g m x) e)
        go None None e absent (index v k) = absurd (none_some v (sym e ∙ k))
        go None None e absent (constant k c) = ap (leaf_value_from g m x) (constants x c ∙ sym e)
        go None None e absent (cell k c w a) = ap (leaf_value_from g m x) (variables x w ∙ sym e)

    leaf_reads : (x : ℕ) (a b : Tree) → LeafReads g variable ix m x → Readable g variable at m (or_node (term_for (names_of ix) terms x) (Leaf x) a b)
    leaf_reads x a b l = go (term_for (names_of ix) terms x) (found_in ix x) refl (given ix terms same readable x) l
      where
        go : (o : Option Tree) (q : Option ℕ) → found_in ix x ≡ q → IsGiven g variable at m o q → LeafReads g variable ix m x → Readable g variable at m (or_node o (Leaf x) a b)
        go None (Some v) e i l = elim i [ ]
        go (Some t) None e i l = elim i [ ]
        go (Some t) (Some v) e (present k r) l = r
        go None None e absent (index v k) = absurd (none_some v (sym e ∙ k))
        go None None e absent (constant k c) = constant (constants x c) c
        go None None e absent (cell k c w a) = cell (variables x w) c w a

    module _ (N : ℕ → Type 0) (U : Type 0) where
      mutual
        unfolding value with_given

        put_same : (t : Tree) → IsOver N U t → Readable g variable ix m t → value g at m (put t) ≡ value g ix m t
        put_same Empty o r = absurd o
        put_same (Node (Leaf x) a b) o r = leaf_same x (put a) (put b) r
        put_same (Node (Read x) a b) o r = ap (λ u. or_zero (m x u)) (all_put_same a o.1 r.1)
        put_same (Node (Apply f) a b) o r = ap (g.interpretation.table f) (all_put_same a o r)
        put_same (Node Eq a b) o r = ap₂ (λ x y. bit (x == y)) (put_same a o.0 r.0) (put_same b o.1 r.1)
        put_same (Node And a b) o r = ap₂ (λ x y. bit (is_one x && is_one y)) (put_same a o.0 r.0) (put_same b o.1 r.1)
        put_same (Node Or a b) o r = ap₂ (λ x y. bit (is_one x || is_one y)) (put_same a o.0 r.0) (put_same b o.1 r.1)
        put_same (Node Not a b) o r = ap (λ x. bit (not (is_one x))) (put_same a o r.0)
        put_same (Node Yes a b) o r = refl
        put_same (Node No a b) o r = refl
        put_same (Node h a b) o r = absurd o

        all_put_same : (t : Tree) → AreOver N U t → AllReadable g variable ix m t → values g at m (put t) ≡ values g ix m t
        all_put_same Empty o r = refl
        all_put_same (Node Cons a b) o r = ap₂ ◌∷◌ (put_same a o.0 r.0) (all_put_same b o.1 r.1)
        all_put_same (Node h a b) o r = absurd o

      nil_reads : (t : Tree) → is_phrase Nil (put t) ≡ true → Readable g variable at m (put t)
      nil_reads t e = subst (Readable g variable at m) (sym (nil_empty (put t) e)) tt

      mutual
        unfolding is_phrase with_given

        put_reads : (t : Tree) → IsOver N U t → Readable g variable ix m t → is_phrase Term (put t) ≡ true → Readable g variable at m (put t)
        put_reads Empty o r e = absurd o
        put_reads (Node (Leaf x) a b) o r e = leaf_reads x (put a) (put b) r
        put_reads (Node (Read x) a b) o r e = (ap (λ u. is_some (m x u)) (all_put_same a o.1 r.1) ∙ r.0, all_put_reads a o.1 r.1 (and_parts (is_phrase Terms (put a)) (is_phrase Nil (put b)) e).0)
        put_reads (Node (Apply f) a b) o r e = all_put_reads a o r (and_parts (is_phrase Terms (put a)) (is_phrase Nil (put b)) e).0
        put_reads (Node Eq a b) o r e = let z = and_parts (is_phrase Term (put a)) (is_phrase Term (put b)) e in (put_reads a o.0 r.0 z.0, put_reads b o.1 r.1 z.1)
        put_reads (Node And a b) o r e = let z = and_parts (is_phrase Term (put a)) (is_phrase Term (put b)) e in (put_reads a o.0 r.0 z.0, put_reads b o.1 r.1 z.1)
        put_reads (Node Or a b) o r e = let z = and_parts (is_phrase Term (put a)) (is_phrase Term (put b)) e in (put_reads a o.0 r.0 z.0, put_reads b o.1 r.1 z.1)
        put_reads (Node Not a b) o r e = let z = and_parts (is_phrase Term (put a)) (is_phrase Nil (put b)) e in (put_reads a o r.0 z.0, nil_reads b z.1)
        put_reads (Node Yes a b) o r e = let z = and_parts (is_phrase Nil (put a)) (is_phrase Nil (put b)) e in (nil_reads a z.0, nil_reads b z.1)
        put_reads (Node No a b) o r e = let z = and_parts (is_phrase Nil (put a)) (is_phrase Nil (put b)) e in (nil_reads a z.0, nil_reads b z.1)
        put_reads (Node h a b) o r e = absurd o

        all_put_reads : (t : Tree) → AreOver N U t → AllReadable g variable ix m t → is_phrase Terms (put t) ≡ true → AllReadable g variable at m (put t)
        all_put_reads Empty o r e = tt
        all_put_reads (Node Cons a b) o r e = let z = and_parts (is_phrase Term (put a)) (is_phrase Terms (put b)) e in (put_reads a o.0 r.0 z.0, all_put_reads b o.1 r.1 z.1)
        all_put_reads (Node h a b) o r e = absurd o

    -- so with a cell of a variable, which is no index
    put_cell : (ds : List Declaration) (game : Tree) (rs : List (ℕ × ℕ)) → ((x : ℕ) → is_variable game x ≡ true → found_in ix x ≡ None) → (t : Tree) → IsFineCell ds game rs t → CellHolds g variable ix m t → is_phrase OneCell (put t) ≡ true → CellHolds g variable at m (put t)
    unfolding is_phrase with_given
    put_cell ds game rs none Empty o h e = absurd o
    put_cell ds game rs none (Node (Leaf x) a b) o h e = record { readable = leaf_reads x (put a) (put b) h.readable; assigned = go (term_for (names_of ix) terms x) (found_in ix x) (none x o) (given ix terms same readable x) }
      where
        go : (o : Option Tree) (q : Option ℕ) → q ≡ None → IsGiven g variable at m o q → is_assigned g at m m (or_node o (Leaf x) (put a) (put b)) ≡ true
        go None (Some v) i j = elim j [ ]
        go (Some t) None i j = elim j [ ]
        go (Some t) (Some v) i j = absurd (some_none v i)
        go None None i j = h.assigned
    put_cell ds game rs none (Node (Read x) a b) o h e =
        let N : ℕ → Type 0 = IsNamed ds game rs in
        let there : is_some (m x (values g at m (put a))) ≡ true = ap (λ u. is_some (m x u)) (all_put_same N (Unit {0}) a o h.readable.1) ∙ h.readable.0 in
        record { readable = (there, all_put_reads N (Unit {0}) a o h.readable.1 (and_parts (is_phrase Terms (put a)) (is_phrase Nil (put b)) e).0); assigned = there }
    put_cell ds game rs none (Node h a b) o k e = absurd o

unless_none : (b : Bool) (k : ℕ) → unless b k ≡ None → b ≡ true
unless_none true k e = refl
unless_none false k e = absurd (cc)

-- at a visit

module _ (s : Scene) (i : Interpretation) (names : (p : ℕ) (Γ : Context) → stands_at s.game p ≡ Some Γ → IsFine s.declarations s.game Γ) (behind : (y : ℕ) → AllByRecursion (IsBehind s.game) (sites_of s.game y))
    (fine : Game (setting_of s.declarations i) (is_variable s.game) s.game) (v : Visit) (counts : IsSyntax v.tree) (holds : VisitHolds (setting_of s.declarations i) (is_variable s.game) s.game fine v) where
  abbrev g : Setting
  g = setting_of s.declarations i

  abbrev variable : ℕ → Bool
  variable = is_variable s.game

  abbrev at : Indices
  at = v.before.indices

  abbrev m : Store
  m = v.before.memory.store

  abbrev sight : Sight
  sight = sight_at s v.place

  abbrev Reads : Tree → Type 0
  Reads c = CellHolds g variable at m c

  -- the cells of a line, and of the lines that may be cited

  pub record IsRead (c : Tree) : Type 0 where
    pub reads : CellHolds (setting_of s.declarations i) (is_variable s.game) v.before.indices v.before.memory.store c
    pub phrase : is_phrase OneCell c ≡ true

  abbrev pub IfCell : Statement → Type 0
  IfCell (Holds t) = Unit {0}
  IfCell (IsDefined c) = IsRead c

  abbrev AllCells : Visible → Type 0
  AllCells V = (k : ℕ) (t : Statement) → V k ≡ Some t → IfCell t

  abbrev AllTrue : Visible → Type 0
  AllTrue V = (k : ℕ) (t : Statement) → V k ≡ Some t → IsTrue g at m m t

  -- those that stand at the place

  place_reads : AllByRecursion Reads (cells_by (stands_at s.game v.place))
  place_reads = go (stands_at s.game v.place) refl
    where
      go : (o : Option Context) → stands_at s.game v.place ≡ o → AllByRecursion Reads (cells_by o)
      go None e = tt
      go (Some Δ) e =
          (place_covers (λ f. Unit {0}) Reads Anywhere nothing_known nothing_known s.game v.place holds.above Δ (same_covers (λ f. Unit {0}) Reads nothing_known) (stands_known s.game v.place holds.phrase holds.above v.tree counts holds.stands) e).cells
          holds.holds.cells

  any_reads : (c : Tree) (cs : List Tree) → AllByRecursion Reads cs → list_any (same_tree c) cs ≡ true → Reads c
  any_reads c [] h e = absurd (both_ways _ refl e)
  any_reads c (d ∷ cs) h e = go (or_cases (same_tree c d) _ e) (any_reads c cs h.1)
    where
      go : (same_tree c d ≡ true) ⊎ (list_any (same_tree c) cs ≡ true) → (list_any (same_tree c) cs ≡ true → Reads c) → Reads c
      go (inl k) f = subst Reads (sym (same_tree_exact c d k)) h.0
      go (inr k) f = f k

  -- those behind the only definition of the variable of a cell

  site_fine : (x r : ℕ) (Δ : Context) → sites_of s.game x ≡ (r, Δ) ∷ [] → IsFine s.declarations s.game Δ
  site_fine x r Δ one = go (behind_at s.game r) (subst (AllByRecursion (IsBehind s.game)) one (behind x)).0
    where
      go : (o : Option ℕ) → option_and_then (stands_at s.game) o ≡ Some Δ → IsFine s.declarations s.game Δ
      go None e = absurd (none_some Δ e)
      go (Some p) e = names p Δ e

  module _ (c d : Tree) (x : ℕ) (u : List ℕ) (indexed : values g at m (first d) ≡ u) (readable : AllReadable g variable at m (first d)) (phrase : is_phrase OneCell c ≡ true) where
    site_reads : (w r : ℕ) (Δ : Context) → sites_of s.game x ≡ (r, Δ) ∷ [] → SiteHolds g variable s.game fine x u w m v.before.memory.events → list_any (same_tree c) (map (at_cell d Δ) Δ.cells) ≡ true → Reads c
    site_reads w r Δ one h e =
        let covers = (only_site_covers (λ f. Unit {0}) (CellHolds g variable h.indices m) s.game x r Δ (h.place, after_site h.head h.one h.two h.above) one (stands_definition s.game x h.place h.phrase h.above h.head h.one h.two h.stands h.defines)).1 in
        let same : names_of h.indices ≡ map (λ (r : ℕ × ℕ). r.0) Δ.replications = index_names g h.indices _ h.matches.named ∙ ap (map (λ (r : ℕ × ℕ). r.0)) (sym covers.replications) in
        each same Δ.cells (covers.cells h.holds.cells) (site_fine x r Δ one).cells e
      where
        one_reads : names_of h.indices ≡ map (λ (r : ℕ × ℕ). r.0) Δ.replications → (t : Tree) → CellHolds g variable h.indices m t → IsFineCell s.declarations s.game Δ.replications t → c ≡ at_cell d Δ t → Reads c
        one_reads same t k o j =
            let whole : c ≡ with_given (names_of h.indices) (first d) t = j ∙ ap (λ ns. with_given ns (first d) t) (sym same) in
            subst Reads (sym whole)
            (put_cell g variable at m (constant_none g variable holds.above.replications at holds.matches) (variable_none g variable holds.above.replications at holds.matches) h.indices (first d) (indexed ∙ sym h.at) readable s.declarations s.game Δ.replications
            (variable_none g variable (after_site h.head h.one h.two h.above).replications h.indices h.matches) t o k (sym (ap (is_phrase OneCell) whole) ∙ phrase))

        each : names_of h.indices ≡ map (λ (r : ℕ × ℕ). r.0) Δ.replications → (ts : List Tree) → AllByRecursion (CellHolds g variable h.indices m) ts → AllByRecursion (IsFineCell s.declarations s.game Δ.replications) ts → list_any (same_tree c) (map (at_cell d Δ) ts) ≡ true → Reads c
        each same [] a b e = absurd (both_ways _ refl e)
        each same (t ∷ ts) a b e = go (or_cases (same_tree c (at_cell d Δ t)) _ e) (each same ts a.1 b.1)
          where
            go : (same_tree c (at_cell d Δ t) ≡ true) ⊎ (list_any (same_tree c) (map (at_cell d Δ) ts) ≡ true) → (list_any (same_tree c) (map (at_cell d Δ) ts) ≡ true → Reads c) → Reads c
            go (inl k) f = one_reads same t a.0 b.0 (same_tree_exact c (at_cell d Δ t) k)
            go (inr k) f = f k

    sites_read : (w : ℕ) → m x u ≡ Some w → (ls : List (ℕ × Context)) → sites_of s.game x ≡ ls → list_any (same_tree c) (at_site (λ (Γ : Context). Γ.cells) d (only_site ls)) ≡ true → Reads c
    sites_read w a [] k e = absurd (both_ways _ refl e)
    sites_read w a (z ∷ []) k e = site_reads w z.0 z.1 k (holds.stores x u w a) e
    sites_read w a (z ∷ (y ∷ ls)) k e = absurd (both_ways _ refl e)

  cell_behind : (c : Tree) → is_phrase OneCell c ≡ true → (d : Tree) → IsRead d → list_any (same_tree c) (site_cells sight d) ≡ true → Reads c
  unfolding is_phrase value
  cell_behind c f Empty r e = absurd (both_ways _ refl e)
  cell_behind c f (Node (Leaf x) a b) r e =
      let nil : a ≡ Empty = nil_empty a (and_parts (is_phrase Nil a) (is_phrase Nil b) r.phrase).0 in
      let w = some_of (m x []) r.reads.assigned in
      sites_read c (Node (Leaf x) a b) x [] (ap (values g at m) nil) (subst (AllReadable g variable at m) (sym nil) tt) f w.0 w.1 (sites_of s.game x) refl e
  cell_behind c f (Node (Read x) a b) r e =
      let w = some_of (m x (values g at m a)) r.reads.assigned in
      sites_read c (Node (Read x) a b) x (values g at m a) refl r.reads.readable.1 f w.0 w.1 (sites_of s.game x) refl e
  cell_behind c f (Node h a b) r e = absurd (both_ways _ refl e)

  -- by a reason

  no_false : (t : Tree) → t ≡ no → value g at m t ≡ 1 → ⊥
  unfolding value
  no_false t e f = nought_one (value g at m t) (ap (value g at m) e) f

  module _ (V : Visible) (cells : AllCells V) (true_lines : AllTrue V) (c : Tree) (phrase : is_phrase OneCell c ≡ true) where
    of_reads : (l : Tree) → list_any (same_tree c) (site_cells sight (cited_cell V l)) ≡ true → Reads c
    of_reads l e = go (V (number_of l)) refl e
      where
        go : (o : Option Statement) → V (number_of l) ≡ o → list_any (same_tree c) (site_cells sight (cell_in o)) ≡ true → Reads c
        go None k e = absurd (both_ways _ refl e)
        go (Some (Holds t)) k e = absurd (both_ways _ refl e)
        go (Some (IsDefined d)) k e = cell_behind c phrase d (cells (number_of l) (IsDefined d) k) e

    exfalso_reads : (l : Tree) → same_tree (cited_term V l) no ≡ true → ⊥
    exfalso_reads l e = go (V (number_of l)) refl (same_tree_exact (cited_term V l) no e)
      where
        empty : Empty ≡ no → ⊥
        empty k = cc

        go : (o : Option Statement) → V (number_of l) ≡ o → term_in o ≡ no → ⊥
        go None k f = empty f
        go (Some (Holds t)) k f = no_false t f (true_lines (number_of l) (Holds t) k)
        go (Some (IsDefined d)) k f = empty f

    again_reads : (l : Tree) → same_tree c (cited_cell V l) ≡ true → Reads c
    unfolding is_phrase
    again_reads l e = go (V (number_of l)) refl (same_tree_exact c (cited_cell V l) e)
      where
        no_tree : c ≡ Empty → ⊥
        no_tree k = both_ways _ refl (sym (ap (is_phrase OneCell) k) ∙ phrase)

        go : (o : Option Statement) → V (number_of l) ≡ o → c ≡ cell_in o → Reads c
        go None k f = absurd (no_tree f)
        go (Some (Holds t)) k f = absurd (no_tree f)
        go (Some (IsDefined d)) k f = subst Reads (sym f) (cells (number_of l) (IsDefined d) k).reads

    cell_reads : (reason : Tree) → is_reason_of_cell sight V c reason ≡ true → Reads c
    cell_reads Empty e = absurd (both_ways _ refl e)
    cell_reads (Node head.ByHere a b) e = any_reads c (cells_by (stands_at s.game v.place)) place_reads e
    cell_reads (Node head.ByOf l b) e = of_reads l e
    cell_reads (Node head.ByOtherHere a b) e = absurd (both_ways _ refl e)
    cell_reads (Node head.ByExfalso l b) e = absurd (exfalso_reads l e)
    cell_reads (Node head.ByAgain l b) e = again_reads l e
    cell_reads (Node h a b) e = absurd (both_ways _ refl e)

  -- line by line

  with_more : (P : Statement → Type 0) (V : Visible) (n : ℕ) (t : Statement) → ((k : ℕ) (u : Statement) → V k ≡ Some u → P u) → P t → (k : ℕ) (u : Statement) → with_line V n t k ≡ Some u → P u
  with_more P V n t f h k u e = go (V k) refl (n == k) e
    where
      go : (o : Option Statement) → V k ≡ o → (b : Bool) → first_of o (cond b (Some t) None) ≡ Some u → P u
      go (Some w) x b e = f k u (x ∙ ap Some (some_injective e))
      go None x true e = subst P (some_injective e) h
      go None x false e = absurd (none_some u e)

  line_reads : (a : Tree) (V : Visible) (t : Statement) (reason : Tree) → AllCells V → AllTrue V → is_right sight a V t reason ≡ true → IfCell t
  line_reads a V (Holds t) reason cells lines e = tt
  line_reads a V (IsDefined c) reason cells lines e =
      let p = and_parts (is_typed sight (IsDefined c)) _ e in
      let phrase = (and_parts (is_phrase OneCell c) _ p.0).0 in
      record { reads = cell_reads V cells lines c phrase reason p.1; phrase = phrase }

  lines_read : (a : Tree) (V : Visible) (n : ℕ) (ls : Lines) → AllCells V → AllTrue V → first_bad sight a V n ls ≡ None → AllByRecursion (IsTrue g at m m) (statements ls) → AllByRecursion IfCell (statements ls)
  unfolding first_bad statements
  lines_read a V n End cells lines e h = tt
  lines_read a V n (By t reason rest) cells lines e h =
      let p = none_first (unless (is_right sight a V t reason) n) _ e in
      let x : IfCell t = line_reads a V t reason cells lines (unless_none (is_right sight a V t reason) n p.0) in
      (x, lines_read a (with_line V n t) (n + 1) rest (with_more IfCell V n t cells x) (with_more (IsTrue g at m m) V n t lines h.0) p.1 h.1)
  lines_read a V n (Cases c d e t rest) cells lines z h =
      let middle : ℕ = n + count d in
      let end : ℕ = middle + count e in
      let p = none_first (first_bad sight c V n d) _ z in
      let q = none_first (first_bad sight (Node Not c Empty) V middle e) _ p.1 in
      let w = none_first (unless (is_right_split sight c d e t) end) _ q.1 in
      (tt, lines_read a (with_line V end (Holds t)) (end + 1) rest (with_more IfCell V end (Holds t) cells tt) (with_more (IsTrue g at m m) V end (Holds t) lines h.0) w.1 h.1)

  pub derivation_reads : (by : Tree) → first_bad_line sight by ≡ None → AllByRecursion (IsTrue g at m m) (statements (lines_of by)) → AllByRecursion IfCell (statements (lines_of by))
  derivation_reads by e h = lines_read Empty nothing_visible 1 (lines_of by) (λ k t z. absurd (none_some t z)) (λ k t z. absurd (none_some t z)) e h
