-- The cells that stand at a place are assigned where their indices are read in a later store.
use Rattle.std.proofs.Common.{◌≡◌, ℕ, ◌+◌, ◌-◌, Bool, true, false, cond, nat_lt, List, [], ◌∷◌, ◌++◌, inl, inr, Option, Some, is_some, refl, sym, ap, subst, ◌∙◌}
use Rattle.std.proofs.lemmas.Bool.{both_ways}
use Rattle.std.specs.List.{AllByRecursion}
use Rattle.cv_syntax_trees.specs.declared.head.Head.{Head}
use Rattle.cv_syntax_trees.specs.declared.head.Head.TheVariants.{Repl, In, New, Let, Branch, Leaf, Read, Cons, Key, Call}
use Rattle.cv_syntax_trees.specs.Head.{weight}
use Rattle.cv_syntax_trees.specs.Tree.{Tree, Empty, Node, second, size, first_place, second_place}
use Rattle.cv_meaning.specs.Interpretation.{Setting}
use Rattle.cv_meaning.specs.Memory.{Indices, Store}
use Rattle.cv_meaning.specs.Candidates.{is_assigned}
use Rattle.cv_meaning.specs.Serving.{Visit}
use Rattle.cv_scope_rules.specs.declared.position.Position.{Position}
use Rattle.cv_scope_rules.specs.declared.position.Position.TheVariants as position
use Rattle.cv_scope_rules.specs.Context.{Context, cell_of, cells_of, context_at, first_context, first_position, items, nothing_known, second_context, second_position}
use Rattle.cv_scope_rules.specs.Sites.{Variable}
use Rattle.cv_scope_rules.specs.Made.{made_by}
use Rattle.cv_scope_runs.specs.Promises.{AreIndicesOf, IsDefinition, after_site, definitions_in, definitions_of}
use Rattle.cv_scope_runs.specs.Reads.{IsKept}
use Rattle.cv_scope_runs.proofs.Contexts.{CellHolds}
use Rattle.cv_scope_runs.proofs.Games.{Game}
use Rattle.cv_scope_runs.proofs.PathRuns.{SiteHolds}
use Rattle.cv_scope_runs.proofs.ServeRuns.{VisitHolds}
use Rattle.cv_scope_runs.proofs.Standing.{stands_definition, stands_known}
use Rattle.cv_scope_runs.proofs.TermsLater.{store_extends, values_kept}
use Rattle.cv_scope_rules.specs.Behind.{behind_site, sites_in, sites_of}
use Rattle.cv_scope_rules.specs.Above.{first_standing, second_standing, standing_at, with_failed, with_held}
use Rattle.cv_derive_laws.specs.stores.Reached.{PlaceCellsBetween, SiteCellsBetween}
use Rattle.cv_syntax_trees.proofs.lists.Each.{AllByRecursion_append, AllByRecursion_weaker, AllByRecursion_left, AllByRecursion_right}

-- what is true of the cells that are known is true of those that stand

module _ (P : Tree → Type 0) where
  record Covers (Γ Δ : Context) : Type 0 where
    replications : Δ.replications ≡ Γ.replications
    cells : AllByRecursion P Γ.cells → AllByRecursion P Δ.cells
    own : AllByRecursion P Γ.own → AllByRecursion P Δ.own

  held_covers : (Γ Δ : Context) (t : Tree) → Covers Γ Δ → Covers Γ (with_held Δ t)
  held_covers Γ Δ Empty c = c
  held_covers Γ Δ (Node h a b) c = record { replications = c.replications; cells = c.cells; own = c.own }

  failed_covers : (Γ Δ : Context) (t : Tree) → Covers Γ Δ → Covers Γ (with_failed Δ t)
  failed_covers Γ Δ Empty c = c
  failed_covers Γ Δ (Node h a b) c = record { replications = c.replications; cells = c.cells; own = c.own }

  plain : (Γ Δ Θ : Context) → Θ.replications ≡ Γ.replications → Θ.cells ≡ Γ.cells → Θ.own ≡ Γ.own → Covers Γ Δ → Covers Θ Δ
  plain Γ Δ Θ e f g c = record { replications = c.replications ∙ sym e; cells = λ a. c.cells (subst (AllByRecursion P) f a); own = λ a. c.own (subst (AllByRecursion P) g a) }

  more : (cs ds xs ys : List Tree) → ys ≡ xs → (AllByRecursion P cs → AllByRecursion P ds) → AllByRecursion P (cs ++ xs) → AllByRecursion P (ds ++ ys)
  more cs ds xs ys e k a = AllByRecursion_append P ds ys (k (AllByRecursion_left P cs xs a)) (subst (AllByRecursion P) (sym e) (AllByRecursion_right P cs xs a))

  first_covers : (w : Position) (h : Head) (Γ Δ : Context) → Covers Γ Δ → Covers (first_context w h Γ) (first_standing w h Δ)
  first_covers position.Bodies Cons Γ Δ c = let k = held_covers Γ Δ Δ.tested c in record { replications = k.replications; cells = k.cells; own = k.own }
  first_covers position.ElseBody Cons Γ Δ c = let k = failed_covers Γ Δ Δ.tested c in record { replications = k.replications; cells = k.cells; own = k.own }
  first_covers w Cons Γ Δ c = c
  first_covers w h Γ Δ c = c

  guarded_covers : (a : Tree) (Γ Δ : Context) → Covers Γ Δ → Covers (second_context position.Guarded Cons a Γ) (second_standing position.Guarded Cons a Δ)
  guarded_covers a Γ Δ c =
      let base : Covers (record Γ { cells = Γ.cells ++ Γ.own; own = [] }) (record Δ { cells = Δ.cells ++ Δ.own; own = [] }) = over in
      let k = held_covers (record Γ { cells = Γ.cells ++ Γ.own; own = [] }) (record Δ { cells = Δ.cells ++ Δ.own; own = [] }) a base in
      record { replications = k.replications; cells = k.cells; own = k.own }
    where
      over : Covers (record Γ { cells = Γ.cells ++ Γ.own; own = [] }) (record Δ { cells = Δ.cells ++ Δ.own; own = [] })
      over = record { replications = c.replications; cells = λ a. AllByRecursion_append P Δ.cells Δ.own (c.cells (AllByRecursion_left P Γ.cells Γ.own a)) (c.own (AllByRecursion_right P Γ.cells Γ.own a)); own = λ a. tt }

  second_covers : (w : Position) (h : Head) (a : Tree) (Γ Δ : Context) → Covers Γ Δ → Covers (second_context w h a Γ) (second_standing w h a Δ)
  second_covers position.Guarded Cons a Γ Δ c = guarded_covers a Γ Δ c
  second_covers position.Guards Cons a Γ Δ c = record { replications = c.replications; cells = more Γ.cells Δ.cells (items a) (items a) refl c.cells; own = c.own }
  second_covers position.Cells Cons a Γ Δ c = record { replications = c.replications; cells = λ z. c.cells (AllByRecursion_left P Γ.cells (a ∷ []) z); own = c.own }
  second_covers w Cons a Γ Δ c = c
  second_covers w (Repl i n) a Γ Δ c = record { replications = ap (λ rs. rs ++ (i, n) ∷ []) c.replications; cells = c.cells; own = λ z. tt }
  second_covers w (In x) a Γ Δ c = record { replications = c.replications; cells = more Γ.cells Δ.cells (cells_of Γ.replications (second a)) (cells_of Δ.replications (second a)) (ap (λ rs. cells_of rs (second a)) c.replications) c.cells; own = c.own }
  second_covers w (New x T) a Γ Δ c = record { replications = c.replications; cells = more Γ.cells Δ.cells (cell_of Γ.replications x ∷ []) (cell_of Δ.replications x ∷ []) (ap (λ rs. cell_of rs x ∷ []) c.replications) c.cells; own = c.own }
  second_covers w (Let x T) a Γ Δ c = record { replications = c.replications; cells = more Γ.cells Δ.cells (cell_of Γ.replications x ∷ []) (cell_of Δ.replications x ∷ []) (ap (λ rs. cell_of rs x ∷ []) c.replications) c.cells; own = c.own }
  second_covers w (Key x) a Γ Δ c = record { replications = c.replications; cells = more Γ.cells Δ.cells (cell_of Γ.replications x ∷ []) (cell_of Δ.replications x ∷ []) (ap (λ rs. cell_of rs x ∷ []) c.replications) c.cells; own = c.own }
  second_covers w (Call x l) a Γ Δ c = record { replications = c.replications; cells = more Γ.cells Δ.cells (cell_of Γ.replications x ∷ []) (cell_of Δ.replications x ∷ []) (ap (λ rs. cell_of rs x ∷ []) c.replications) c.cells; own = c.own }
  second_covers w Branch a Γ Δ c = record { replications = c.replications; cells = c.cells; own = λ z. subst (AllByRecursion P) (sym (ap (λ rs. cells_of rs a) c.replications)) (AllByRecursion_right P Γ.own (cells_of Γ.replications a) z) }
  second_covers w h a Γ Δ c = record { replications = c.replications; cells = c.cells; own = c.own }

  some_is : (Γ Δ : Context) → ◌≡◌ {A = Option Context} (Some Γ) (Some Δ) → Γ ≡ Δ
  some_is Γ Δ e = cc

  covers_at : (t : Tree) (w : Position) (Γ Δ : Context) (p : ℕ) (Γ' Δ' : Context) → Covers Γ Δ → context_at w Γ t p ≡ Some Γ' → standing_at w Δ t p ≡ Some Δ' → Covers Γ' Δ'
  unfolding context_at standing_at
  covers_at Empty w Γ Δ p Γ' Δ' c e f = absurd (cc)
  covers_at (Node h a b) w Γ Δ p Γ' Δ' c e f =
      go (nat_lt p (weight h)) (nat_lt p (weight h + size a)) e f
      (covers_at a (first_position w h) (first_context w h Γ) (first_standing w h Δ) (p - weight h) Γ' Δ' (first_covers w h Γ Δ c))
      (covers_at b (second_position w h) (second_context w h a Γ) (second_standing w h a Δ) (p - (weight h + size a)) Γ' Δ' (second_covers w h a Γ Δ c))
    where
      x : Option Context
      x = context_at (first_position w h) (first_context w h Γ) a (p - weight h)

      y : Option Context
      y = standing_at (first_position w h) (first_standing w h Δ) a (p - weight h)

      u : Option Context
      u = context_at (second_position w h) (second_context w h a Γ) b (p - (weight h + size a))

      v : Option Context
      v = standing_at (second_position w h) (second_standing w h a Δ) b (p - (weight h + size a))

      go : (i j : Bool) → cond i (Some Γ) (cond j x u) ≡ Some Γ' → cond i (Some Δ) (cond j y v) ≡ Some Δ' → (x ≡ Some Γ' → y ≡ Some Δ' → Covers Γ' Δ') → (u ≡ Some Γ' → v ≡ Some Δ' → Covers Γ' Δ') → Covers Γ' Δ'
      go true j e f k l = subst (λ (z : Context × Context). Covers z.0 z.1) (λ i. (some_is Γ Γ' e i, some_is Δ Δ' f i)) c
      go false true e f k l = k e f
      go false false e f k l = l e f

  start_covers : Covers nothing_known nothing_known
  start_covers = record { replications = refl; cells = λ a. a; own = λ a. a }

  -- definitions, and what is known and what stands behind each

  abbrev Pairs : List (ℕ × Context) → List (ℕ × Context) → Type 0
  Pairs [] [] = Unit {0}
  Pairs (d ∷ ds) (s ∷ ss) = Covers d.1 s.1 × Pairs ds ss
  Pairs _ _ = ⊥

  pairs_append : (ds es ss ts : List (ℕ × Context)) → Pairs ds ss → Pairs es ts → Pairs (ds ++ es) (ss ++ ts)
  pairs_append [] es [] ts a b = b
  pairs_append [] es (s ∷ ss) ts a b = absurd a
  pairs_append (d ∷ ds) es [] ts a b = absurd a
  pairs_append (d ∷ ds) es (s ∷ ss) ts a b = (a.0, pairs_append ds es ss ts a.1 b)

  pairs_where : (b : Bool) (p : ℕ) (Γ Δ : Context) → Covers Γ Δ → Pairs (cond b ((p, Γ) ∷ []) []) (cond b ((p, Δ) ∷ []) [])
  pairs_where true p Γ Δ c = (c, tt)
  pairs_where false p Γ Δ c = tt

  behind_covers : (h : Head) (a b : Tree) (Γ Δ : Context) → Covers Γ Δ → Covers (after_site h a b Γ) (behind_site h a b Δ)
  behind_covers Branch us (Node h cells (Node k c body)) Γ Δ e =
      second_covers position.Guarded Cons c _ _ (second_covers position.Guards Cons cells _ _ (second_covers position.Anywhere Branch us Γ Δ e))
  behind_covers Branch us (Node h cells Empty) Γ Δ e = second_covers position.Anywhere Branch us Γ Δ e
  behind_covers Branch us Empty Γ Δ e = second_covers position.Anywhere Branch us Γ Δ e
  behind_covers h a b Γ Δ e = second_covers position.Anywhere h a Γ Δ e

  sites_pair : (x : ℕ) (w : Position) (Γ Δ : Context) (p : ℕ) (t : Tree) → Covers Γ Δ → Pairs (definitions_in x w Γ p t) (sites_in x w Δ p t)
  unfolding definitions_in sites_in
  sites_pair x w Γ Δ p Empty c = tt
  sites_pair x w Γ Δ p (Node h a b) c =
      pairs_append _ _ _ _ (pairs_where (made_by h a (Variable x)) p (after_site h a b Γ) (behind_site h a b Δ) (behind_covers h a b Γ Δ c))
      (pairs_append _ _ _ _ (sites_pair x (first_position w h) (first_context w h Γ) (first_standing w h Δ) (first_place p h) a (first_covers w h Γ Δ c))
      (sites_pair x (second_position w h) (second_context w h a Γ) (second_standing w h a Δ) (second_place p h a) b (second_covers w h a Γ Δ c)))

  only_definition : (d : ℕ × Context) (ds ss : List (ℕ × Context)) (p : ℕ) (Δ : Context) → ss ≡ (p, Δ) ∷ [] → Pairs ds ss → IsDefinition d ds → Covers d.1 Δ
  only_definition d ds ss p Δ e a i = go ds (subst (Pairs ds) e a) i
    where
      go : (ds : List (ℕ × Context)) → Pairs ds ((p, Δ) ∷ []) → IsDefinition d ds → Covers d.1 Δ
      go [] a i = absurd i
      go (f ∷ []) a (inl k) = subst (λ (z : ℕ × Context). Covers z.1 Δ) (sym k) a.0
      go (f ∷ []) a (inr k) = absurd k
      go (f ∷ (g ∷ ds)) a i = absurd a.1

-- cells that hold

module _ (g : Setting) (variable : ℕ → Bool) (game : Tree) (fine : Game g variable game) where
  cell_between : (at : Indices) (m n : Store) → IsKept m n → (c : Tree) → CellHolds g variable at m c → is_assigned g at m n c ≡ true
  cell_between at m n k Empty h = absurd (both_ways _ refl h.assigned)
  cell_between at m n k (Node (Leaf x) a b) h = h.assigned
  cell_between at m n k (Node (Read x) a b) h = ap (λ u. is_some (m x u)) (values_kept g variable at m at n (store_extends g variable at m n k) a h.readable.1) ∙ h.readable.0
  cell_between at m n k (Node q a b) h = absurd (both_ways _ refl h.assigned)

  place_between : (v : Visit) → VisitHolds g variable game fine v → PlaceCellsBetween g game v
  place_between v h s Δ e n k =
      let known = stands_known game v.place h.phrase h.above v.tree s h.stands in
      let c = covers_at (λ c. is_assigned g v.before.indices v.before.memory.store n c ≡ true) game position.Anywhere nothing_known nothing_known v.place h.above Δ (start_covers _) known e in
      c.cells (AllByRecursion_weaker (CellHolds g variable v.before.indices v.before.memory.store) _ (cell_between v.before.indices v.before.memory.store n k) h.above.cells h.holds.cells)

  site_between : (v : Visit) → VisitHolds g variable game fine v → SiteCellsBetween g game v
  site_between v h y p Δ e u k f =
      let m : Store = v.before.memory.store in
      let z : SiteHolds g variable game fine y u k m v.before.memory.events = h.stores y u k f in
      let Γ : Context = after_site z.head z.one z.two z.above in
      let d = stands_definition game y z.place z.phrase z.above z.head z.one z.two z.stands z.defines in
      let covers : (P : Tree → Type 0) → Covers P Γ Δ = λ P. only_definition P (z.place, Γ) (definitions_of game y) (sites_of game y) p Δ e (sites_pair P y position.Anywhere nothing_known nothing_known 0 game (start_covers P)) d in (
        z.indices,
        z.at,
        subst (AreIndicesOf g z.indices) (sym (covers (λ c. Unit {0})).replications) z.matches.named,
        λ n l. (covers (λ c. is_assigned g z.indices m n c ≡ true)).cells (AllByRecursion_weaker (CellHolds g variable z.indices m) _ (cell_between z.indices m n l) Γ.cells z.holds.cells),
      )

  pub all_between : (vs : List Visit) → AllByRecursion (VisitHolds g variable game fine) vs → AllByRecursion (PlaceCellsBetween g game) vs × AllByRecursion (SiteCellsBetween g game) vs
  all_between [] h = (tt, tt)
  all_between (v ∷ vs) h = let r = all_between vs h.1 in ((place_between v h.0, r.0), (site_between v h.0, r.1))
