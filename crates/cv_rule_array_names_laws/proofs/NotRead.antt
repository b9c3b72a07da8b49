-- A game in array scope that defines a variable nowhere, and whose lists name its own variables alone, doesn't read the variable.
use Rattle.std.proofs.Common.{◌≡◌, ℕ, ◌==◌, Bool, true, false, not, List, [], ◌∷◌, ◌++◌, ◌⊎◌, inl, inr, refl, sym, ap, subst, ◌∙◌, eq-eqb, eqb-true}
use Rattle.std.proofs.lemmas.Bool.{and_from, and_parts, both_ways, not-true, or_parts}
use Rattle.std.specs.List.{AllByRecursion}
use Rattle.cv_syntax_trees.proofs.lists.Each.{AllByRecursion_append}
use Rattle.cv_syntax.specs.faults.Walk.{IsObeyed}
use Rattle.cv_syntax_trees.specs.declared.head.Head.{Head}
use Rattle.cv_syntax_trees.specs.declared.head.Head.TheVariants.{Binder, Branch, Call, Cons, Event, If, In, Key, Leaf, Let, New, Read, Repl}
use Rattle.cv_syntax_trees.specs.Declarations.{Declaration}
use Rattle.cv_syntax_trees.specs.Tree.{Tree, Empty, Node, head_reads_only, reads_only, second}
use Rattle.cv_meaning.specs.Interpretation.{is_constant_of}
use Rattle.cv_scope_rules.proofs.Apart.{first_replications, second_replications}
use Rattle.cv_scope_rules.proofs.Unbound.{no_variable}
use Rattle.cv_scope_rules.specs.Context.{Context, cell_of, cells_of, first_context, first_position, item_context, items, replications_below, rest_context, second_context, second_position}
use Rattle.cv_scope_rules.specs.Phrases.{binds_none, head_binds_none}
use Rattle.cv_scope_rules.specs.Rules.{InReach, IsAmong, IsInScope, ReadsInReach, is_index}
use Rattle.cv_scope_rules.specs.Scope.{IsScopedAt, names_of}
use Rattle.cv_scope_rules.specs.Standing.{Standing, at_root, first_standing, second_standing}
use Rattle.cv_scope_rules.specs.declared.fault.Fault.TheVariants.{Unscoped}
use Rattle.cv_scope_rules.specs.declared.position.Position.{Position}
use Rattle.cv_scope_rules.specs.declared.position.Position.TheVariants.{Anywhere, Bodies, Cells, ElseBody, Guarded, Guards, OneCell}
use Rattle.cv_steps.specs.Changes.{only}
use Rattle.cv_typing_runs.specs.Games.{are_named, are_variable_cells, has_site, is_named, is_variable_cell}
use Rattle.cv_edit_names.specs.Cells.{is_cell_of}
use Rattle.cv_rule_array_names.proofs.Places.{index_pushed}
use Rattle.cv_rule_array_names.proofs.Values.{Unread}

module _ (ds : List Declaration) (game : Tree) (x : ℕ) (constant : is_constant_of ds x ≡ false) (nowhere : has_site game x ≡ false) where
  abbrev V : ℕ → Bool
  V z = has_site game z

  abbrev IsOtherCell : Tree → Type 0
  IsOtherCell t = is_cell_of x t ≡ false

  -- no cell in reach is one of the variable
  record Reach (Γ : Context) : Type 0 where
    cells : AllByRecursion IsOtherCell Γ.cells
    own : AllByRecursion IsOtherCell Γ.own

  among : (t : Tree) (cs : List Tree) → AllByRecursion IsOtherCell cs → IsAmong t cs → IsOtherCell t
  among t [] r h = absurd h
  among t (c ∷ cs) r (inl e) = subst IsOtherCell (sym e) r.0
  among t (c ∷ cs) r (inr h) = among t cs r.1 h

  in_reach : (Γ : Context) (t : Tree) → Reach Γ → InReach Γ t → IsOtherCell t
  in_reach Γ t r (inl h) = among t Γ.cells r.cells h
  in_reach Γ t r (inr h) = among t Γ.own r.own h

  other_variable : (z : ℕ) → V z ≡ true → (z == x) ≡ false
  other_variable z e = go (z == x) refl
    where
      go : (b : Bool) → (z == x) ≡ b → (z == x) ≡ false
      go true i = absurd (both_ways (V x) nowhere (ap V (sym (eqb-true z x i)) ∙ e))
      go false i = i

  -- definitions and lists

  one_cell : (rs : List (ℕ × ℕ)) (z : ℕ) → not (only x z) ≡ true → IsOtherCell (cell_of rs z)
  one_cell [] z e = not-true _ e
  one_cell (r ∷ rs) z e = not-true _ e

  binder_cells : (rs : List (ℕ × ℕ)) (bs : Tree) → binds_none (only x) bs ≡ true → AllByRecursion IsOtherCell (cells_of rs bs)
  unfolding binds_none
  binder_cells rs (Node (Binder z T) a b) e =
      let p = and_parts (not (only x z)) _ e in
      (one_cell rs z p.0, binder_cells rs b (and_parts (binds_none (only x) a) _ p.1).1)
  binder_cells rs bs e = tt

  second_binds : (a : Tree) → binds_none (only x) a ≡ true → binds_none (only x) (second a) ≡ true
  unfolding binds_none
  second_binds Empty e = refl
  second_binds (Node h a b) e = (and_parts (binds_none (only x) a) _ (and_parts (head_binds_none (only x) h) _ e).1).1

  variable_cell : (t : Tree) → is_variable_cell V t ≡ true → IsOtherCell t
  variable_cell Empty e = refl
  variable_cell (Node (Leaf z) a b) e = other_variable z e
  variable_cell (Node (Read z) a b) e = other_variable z e
  variable_cell (Node h a b) e = refl

  list_cells : (a : Tree) → are_variable_cells V a ≡ true → AllByRecursion IsOtherCell (items a)
  list_cells Empty e = tt
  list_cells (Node h item more) e = let p = and_parts (is_variable_cell V item) (are_variable_cells V more) e in (variable_cell item p.0, list_cells more p.1)

  -- what is asked of a tree in a `defined` list
  abbrev Here : Position → Tree → Type 0
  Here Cells t = are_variable_cells V t ≡ true
  Here OneCell t = is_variable_cell V t ≡ true
  Here w t = Unit {0}

  here_first : (h : Head) (w : Position) (a b : Tree) → is_named ds V w h a ≡ true → Here w (Node h a b) → Here (first_position w h) a
  here_first Cons Guards a b n k = n
  here_first Cons Cells a b n k = (and_parts (is_variable_cell V a) (are_variable_cells V b) k).0
  here_first Cons w a b n k = tt
  here_first h w a b n k = tt

  here_second : (h : Head) (w : Position) (a b : Tree) → Here w (Node h a b) → Here (second_position w h) b
  here_second Cons Cells a b k = (and_parts (is_variable_cell V a) (are_variable_cells V b) k).1
  here_second Cons w a b k = tt
  here_second h w a b k = tt

  -- the cells in reach of a node's children

  reach_item : (w : Position) (Γ : Context) → Reach Γ → Reach (item_context w Γ)
  reach_item Bodies Γ r = record { cells = r.cells; own = r.own }
  reach_item ElseBody Γ r = record { cells = r.cells; own = r.own }
  reach_item w Γ r = r

  reach_first : (h : Head) (w : Position) (Γ : Context) → Reach Γ → Reach (first_context w h Γ)
  reach_first Cons w Γ r = reach_item w Γ r
  reach_first h w Γ r = r

  reach_rest : (w : Position) (a b : Tree) (Γ : Context) → is_named ds V w Cons a ≡ true → Here w (Node Cons a b) → Reach Γ → Reach (rest_context w a Γ)
  reach_rest Guards a b Γ n k r = record { cells = AllByRecursion_append IsOtherCell Γ.cells (items a) r.cells (list_cells a n); own = r.own }
  reach_rest Guarded a b Γ n k r = record { cells = AllByRecursion_append IsOtherCell Γ.cells Γ.own r.cells r.own; own = tt }
  reach_rest Cells a b Γ n k r =
      record { cells = AllByRecursion_append IsOtherCell Γ.cells (a ∷ []) r.cells (variable_cell a (and_parts (is_variable_cell V a) (are_variable_cells V b) k).0, tt); own = r.own }
  reach_rest w a b Γ n k r = r

  with_one : (z : ℕ) (Γ : Context) → not (only x z) ≡ true → Reach Γ → AllByRecursion IsOtherCell (Γ.cells ++ cell_of Γ.replications z ∷ [])
  with_one z Γ e r = AllByRecursion_append IsOtherCell Γ.cells (cell_of Γ.replications z ∷ []) r.cells (one_cell Γ.replications z e, tt)

  reach_second : (h : Head) (w : Position) (a b : Tree) (Γ : Context) → is_named ds V w h a ≡ true → Here w (Node h a b) → head_binds_none (only x) h ≡ true → binds_none (only x) a ≡ true → Reach Γ → Reach (second_context w h a Γ)
  reach_second Cons w a b Γ n k e f r = reach_rest w a b Γ n k r
  reach_second (Repl i m) w a b Γ n k e f r = record { cells = r.cells; own = r.own }
  reach_second (In c) w a b Γ n k e f r = record { cells = AllByRecursion_append IsOtherCell Γ.cells (cells_of Γ.replications (second a)) r.cells (binder_cells Γ.replications (second a) (second_binds a f)); own = r.own }
  reach_second (New z T) w a b Γ n k e f r = record { cells = with_one z Γ e r; own = r.own }
  reach_second (Let z T) w a b Γ n k e f r = record { cells = with_one z Γ e r; own = r.own }
  reach_second (Key z) w a b Γ n k e f r = record { cells = with_one z Γ e r; own = r.own }
  reach_second (Call z l) w a b Γ n k e f r = record { cells = with_one z Γ e r; own = r.own }
  reach_second (Event c) w a b Γ n k e f r = record { cells = r.cells; own = r.own }
  reach_second If w a b Γ n k e f r = record { cells = r.cells; own = r.own }
  reach_second Branch w a b Γ n k e f r = record { cells = r.cells; own = AllByRecursion_append IsOtherCell Γ.own (cells_of Γ.replications a) r.own (binder_cells Γ.replications a f) }
  reach_second h w a b Γ n k e f r = r

  -- the indices above

  index_below : (h : Head) (rs : List (ℕ × ℕ)) → head_binds_none (only x) h ≡ true → is_index rs x ≡ false → is_index (replications_below h rs) x ≡ false
  index_below (Repl i m) rs e f = index_pushed rs i m x f (not-true _ e)
  index_below h rs e f = f

  -- a node's name

  leaf_read : (w : Position) (Γ : Context) (z : ℕ) (a b : Tree) → IsInScope (names_of ds game) w Γ (Leaf z) a b → Here w (Node (Leaf z) a b) → ReadsInReach (names_of ds game) Γ (Leaf z) a b ⊎ (V z ≡ true)
  leaf_read OneCell Γ z a b o k = inr k
  leaf_read w Γ z a b o k = inl o

  cell_read : (w : Position) (Γ : Context) (z : ℕ) (a b : Tree) → IsInScope (names_of ds game) w Γ (Read z) a b → Here w (Node (Read z) a b) → InReach Γ (Node (Read z) a b) ⊎ (V z ≡ true)
  cell_read OneCell Γ z a b o k = inr k
  cell_read w Γ z a b o k = inl o

  other_leaf : (Γ : Context) (z : ℕ) (a b : Tree) → Reach Γ → is_index Γ.replications x ≡ false → ReadsInReach (names_of ds game) Γ (Leaf z) a b ⊎ (V z ≡ true) → (z == x) ≡ false
  other_leaf Γ z a b r i (inr v) = other_variable z v
  other_leaf Γ z a b r i (inl (inl j)) = go (z == x) refl
    where
      go : (c : Bool) → (z == x) ≡ c → (z == x) ≡ false
      go true e = absurd (both_ways (is_index Γ.replications x) i (ap (is_index Γ.replications) (sym (eqb-true z x e)) ∙ j))
      go false e = e
  other_leaf Γ z a b r i (inl (inr (inl j))) = go (z == x) refl
    where
      go : (c : Bool) → (z == x) ≡ c → (z == x) ≡ false
      go true e = absurd (both_ways (is_constant_of ds x) constant (ap (is_constant_of ds) (sym (eqb-true z x e)) ∙ j))
      go false e = e
  other_leaf Γ z a b r i (inl (inr (inr h))) = in_reach Γ (Node (Leaf z) a b) r h

  other_read : (Γ : Context) (z : ℕ) (a b : Tree) → Reach Γ → InReach Γ (Node (Read z) a b) ⊎ (V z ≡ true) → (z == x) ≡ false
  other_read Γ z a b r (inl h) = in_reach Γ (Node (Read z) a b) r h
  other_read Γ z a b r (inr v) = other_variable z v

  head_unread : (h : Head) (w : Position) (Γ : Context) (a b : Tree) → IsInScope (names_of ds game) w Γ h a b → Here w (Node h a b) → Reach Γ → is_index Γ.replications x ≡ false → head_reads_only (λ z. not (z == x)) h ≡ true
  head_unread (Leaf z) w Γ a b o k r i = ap not (other_leaf Γ z a b r i (leaf_read w Γ z a b o k))
  head_unread (Read z) w Γ a b o k r i = ap not (other_read Γ z a b r (cell_read w Γ z a b o k))
  head_unread h w Γ a b o k r i = refl

  -- the names of a tree

  tree_unread : (s : Standing) (t : Tree) → IsScopedAt (names_of ds game) s t → are_named ds V s.position t ≡ true → Here s.position t → Reach s.known → is_index s.known.replications x ≡ false → binds_none (only x) t ≡ true → Unread x t
  unfolding IsObeyed are_named reads_only binds_none
  tree_unread s Empty o n k r i e = refl
  tree_unread s (Node h a b) o n k r i e =
      let p = and_parts (is_named ds V s.position h a) _ n in
      let q = and_parts (are_named ds V (first_position s.position h) a) _ p.1 in
      let c = and_parts (head_binds_none (only x) h) _ e in
      let d = and_parts (binds_none (only x) a) _ c.1 in
      and_from (head_reads_only (λ z. not (z == x)) h) _ (head_unread h s.position s.known a b (o.0 Unscoped) k r i)
      (and_from (reads_only (λ z. not (z == x)) a) (reads_only (λ z. not (z == x)) b)
      (tree_unread (first_standing s h a) a o.1 q.0 (here_first h s.position a b p.0 k) (reach_first h s.position s.known r) (ap (λ rs. is_index rs x) (first_replications s.position h s.known) ∙ i) d.0)
      (tree_unread (second_standing s h a) b o.2 q.1 (here_second h s.position a b k) (reach_second h s.position a b s.known p.0 k c.0 d.0 r)
      (ap (λ rs. is_index rs x) (second_replications s.position h a s.known) ∙ index_below h s.known.replications c.0 i) d.1))

pub game_unread : (ds : List Declaration) (game : Tree) (x : ℕ) → is_constant_of ds x ≡ false → IsScopedAt (names_of ds game) at_root game → are_named ds (has_site game) Anywhere game ≡ true → binds_none (only x) game ≡ true → Unread x game
game_unread ds game x constant o n e =
    tree_unread ds game x constant (or_parts (has_site game x) _ (no_variable (only x) x (eq-eqb x x refl) game e)).0 at_root game o n tt (record { cells = tt; own = tt }) refl e
