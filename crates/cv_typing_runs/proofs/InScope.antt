-- The names that a game in array scope reads are known.
use Rattle.std.proofs.Common.{◌≡◌, ℕ, Bool, true, List, [], ◌∷◌, ◌++◌, map, ◌⊎◌, inl, inr, is_some, Option, refl, ap, sym, subst}
use Rattle.std.proofs.lemmas.Bool.{and_from, and_parts, or_left, or_right}
use Rattle.std.specs.List.{AllByRecursion}
use Rattle.cv_syntax.specs.faults.Walk.{IsObeyed}
use Rattle.cv_syntax_trees.specs.declared.head.Head.{Head}
use Rattle.cv_syntax_trees.specs.declared.head.Head.TheVariants.{Apply, Branch, Call, Cons, Event, If, In, Key, Leaf, Let, New, Read, Repl}
use Rattle.cv_syntax_trees.specs.Declarations.{Declaration}
use Rattle.cv_syntax_trees.specs.Tree.{Tree, Empty, Node, second, first_place, second_place}
use Rattle.cv_meaning.specs.Binders.{bound_names}
use Rattle.cv_syntax_trees.specs.sites.Sites.{Variable, first_site}
use Rattle.cv_scope_rules.specs.typing.Signature.{function_in}
use Rattle.cv_scope_rules.specs.declared.fault.Fault.TheVariants.{Unscoped}
use Rattle.cv_scope_rules.specs.declared.position.Position.{Position}
use Rattle.cv_scope_rules.specs.declared.position.Position.TheVariants.{Anywhere, Bodies, Cells, ElseBody, Guarded, Guards, OneCell}
use Rattle.cv_scope_rules.specs.Context.{Context, cell_of, cells_of, first_context, first_position, item_context, items, replications_below, rest_context, second_context, second_position}
use Rattle.cv_scope_rules.specs.Rules.{InReach, IsAmong, IsInScope, ReadsInReach, is_index}
use Rattle.cv_scope_rules.specs.Scope.{IsScopedAt, names_of}
use Rattle.cv_scope_rules.specs.Sites.{Variable as Named, channel_here, named_here, site_of, sites_from, sites_here}
use Rattle.cv_scope_rules.specs.Standing.{Standing, at_root, first_standing, second_standing}
use Rattle.cv_typing_runs.specs.Games.{HasConstants, are_known, are_named, are_variable_cells, has_site, is_known, is_named, is_variable_cell}
use Rattle.cv_typing_runs.proofs.SameSites.{Agrees, Stands}
use Rattle.cv_syntax_trees.proofs.lists.Each.{AllByRecursion_append, AllByRecursion_left, AllByRecursion_right}
use Rattle.cv_scope_rules.proofs.Apart.{first_replications, second_replications}

module _ (ds : List Declaration) (game : Tree) (constants : HasConstants ds) where
  abbrev V : ℕ → Bool
  V x = has_site game x

  abbrev F : ℕ → Option Variable
  F x = first_site x [] game

  abbrev IsCell : Tree → Type 0
  IsCell t = is_variable_cell V t ≡ true

  -- the cells in reach are of variables
  record Reach (Γ : Context) : Type 0 where
    cells : AllByRecursion IsCell Γ.cells
    own : AllByRecursion IsCell Γ.own

  among : (t : Tree) (cs : List Tree) → AllByRecursion IsCell cs → IsAmong t cs → IsCell t
  among t [] r h = absurd h
  among t (c ∷ cs) r (inl e) = subst IsCell (sym e) r.0
  among t (c ∷ cs) r (inr h) = among t cs r.1 h

  in_reach : (Γ : Context) (t : Tree) → Reach Γ → InReach Γ t → IsCell t
  in_reach Γ t r (inl h) = among t Γ.cells r.cells h
  in_reach Γ t r (inr h) = among t Γ.own r.own h

  -- definitions

  stands_site : (x : ℕ) (rs : List (ℕ × ℕ)) → Stands F x rs → V x ≡ true
  stands_site x rs s = ap is_some s.1

  one_cell : (rs : List (ℕ × ℕ)) (x : ℕ) → V x ≡ true → IsCell (cell_of rs x)
  one_cell [] x e = e
  one_cell (r ∷ rs) x e = e

  names_cells : (rs qs : List (ℕ × ℕ)) (p : ℕ) (l : List ℕ) → AllByRecursion (Agrees F) (map (λ x. site_of qs p (Named x)) l) → AllByRecursion IsCell (map (cell_of rs) l)
  names_cells rs qs p [] A = tt
  names_cells rs qs p (x ∷ l) A = (one_cell rs x (stands_site x qs (A.0 x refl)), names_cells rs qs p l A.1)

  listed_cells : (a : Tree) → are_variable_cells V a ≡ true → AllByRecursion IsCell (items a)
  listed_cells Empty e = tt
  listed_cells (Node h item more) e = let p = and_parts (is_variable_cell V item) (are_variable_cells V more) e in (p.0, listed_cells more p.1)

  -- what is asked of a tree in a `defined` list
  abbrev Here : Position → Tree → Type 0
  Here Cells t = are_variable_cells V t ≡ true
  Here OneCell t = IsCell t
  Here w t = Unit {0}

  here_first : (h : Head) (w : Position) (a b : Tree) → is_named ds V w h a ≡ true → Here w (Node h a b) → Here (first_position w h) a
  here_first Cons Guards a b n k = n
  here_first Cons Cells a b n k = (and_parts (is_variable_cell V a) (are_variable_cells V b) k).0
  here_first Cons w a b n k = tt
  here_first h w a b n k = tt

  here_second : (h : Head) (w : Position) (a b : Tree) → Here w (Node h a b) → Here (second_position w h) b
  here_second Cons Cells a b k = (and_parts (is_variable_cell V a) (are_variable_cells V b) k).1
  here_second Cons w a b k = tt
  here_second h w a b k = tt

  -- the cells in reach of a node's children

  reach_item : (w : Position) (Γ : Context) → Reach Γ → Reach (item_context w Γ)
  reach_item Bodies Γ r = record { cells = r.cells; own = r.own }
  reach_item ElseBody Γ r = record { cells = r.cells; own = r.own }
  reach_item w Γ r = r

  reach_first : (h : Head) (w : Position) (Γ : Context) → Reach Γ → Reach (first_context w h Γ)
  reach_first Cons w Γ r = reach_item w Γ r
  reach_first h w Γ r = r

  reach_rest : (w : Position) (a b : Tree) (Γ : Context) → is_named ds V w Cons a ≡ true → Here w (Node Cons a b) → Reach Γ → Reach (rest_context w a Γ)
  reach_rest Guards a b Γ n k r = record { cells = AllByRecursion_append IsCell Γ.cells (items a) r.cells (listed_cells a n); own = r.own }
  reach_rest Guarded a b Γ n k r = record { cells = AllByRecursion_append IsCell Γ.cells Γ.own r.cells r.own; own = tt }
  reach_rest Cells a b Γ n k r = record { cells = AllByRecursion_append IsCell Γ.cells (a ∷ []) r.cells ((and_parts (is_variable_cell V a) (are_variable_cells V b) k).0, tt); own = r.own }
  reach_rest w a b Γ n k r = r

  with_one : (rs : List (ℕ × ℕ)) (p x : ℕ) (Γ : Context) → AllByRecursion (Agrees F) (site_of rs p (Named x) ∷ []) → Reach Γ → AllByRecursion IsCell (Γ.cells ++ cell_of Γ.replications x ∷ [])
  with_one rs p x Γ A r = AllByRecursion_append IsCell Γ.cells (cell_of Γ.replications x ∷ []) r.cells (one_cell Γ.replications x (stands_site x rs (A.0 x refl)), tt)

  reach_second : (h : Head) (w : Position) (a b : Tree) (Γ : Context) (rs : List (ℕ × ℕ)) (p : ℕ) → is_named ds V w h a ≡ true → Here w (Node h a b) → AllByRecursion (Agrees F) (named_here rs p h a) → Reach Γ → Reach (second_context w h a Γ)
  reach_second Cons w a b Γ rs p n k A r = reach_rest w a b Γ n k r
  reach_second (Repl i m) w a b Γ rs p n k A r = record { cells = r.cells; own = r.own }
  reach_second (In c) w a b Γ rs p n k A r = record { cells = AllByRecursion_append IsCell Γ.cells (cells_of Γ.replications (second a)) r.cells (names_cells Γ.replications rs p (bound_names (second a)) A); own = r.own }
  reach_second (New x T) w a b Γ rs p n k A r = record { cells = with_one rs p x Γ A r; own = r.own }
  reach_second (Let x T) w a b Γ rs p n k A r = record { cells = with_one rs p x Γ A r; own = r.own }
  reach_second (Key x) w a b Γ rs p n k A r = record { cells = with_one rs p x Γ A r; own = r.own }
  reach_second (Call x l) w a b Γ rs p n k A r = record { cells = with_one rs p x Γ (A.0, tt) r; own = r.own }
  reach_second (Event e) w a b Γ rs p n k A r = record { cells = r.cells; own = r.own }
  reach_second If w a b Γ rs p n k A r = record { cells = r.cells; own = r.own }
  reach_second Branch w a b Γ rs p n k A r = record { cells = r.cells; own = AllByRecursion_append IsCell Γ.own (cells_of Γ.replications a) r.own (names_cells Γ.replications rs p (bound_names a) A) }
  reach_second h w a b Γ rs p n k A r = r

  -- a node's name

  leaf_read : (w : Position) (Γ : Context) (x : ℕ) (a b : Tree) → IsInScope (names_of ds game) w Γ (Leaf x) a b → Here w (Node (Leaf x) a b) → ReadsInReach (names_of ds game) Γ (Leaf x) a b ⊎ (V x ≡ true)
  leaf_read OneCell Γ x a b o k = inr k
  leaf_read w Γ x a b o k = inl o

  cell_read : (w : Position) (Γ : Context) (x : ℕ) (a b : Tree) → IsInScope (names_of ds game) w Γ (Read x) a b → Here w (Node (Read x) a b) → InReach Γ (Node (Read x) a b) ⊎ (V x ≡ true)
  cell_read OneCell Γ x a b o k = inr k
  cell_read w Γ x a b o k = inl o

  named_function : (w : Position) (f : ℕ) (a : Tree) → is_named ds V w (Apply f) a ≡ true → is_some (function_in ds f) ≡ true
  named_function Guards f a n = n
  named_function w f a n = n

  leaf_known : (w : Position) (Γ : Context) (x : ℕ) (a b : Tree) → Reach Γ → ReadsInReach (names_of ds game) Γ (Leaf x) a b ⊎ (V x ≡ true) → is_known ds V Γ.replications (Leaf x) ≡ true
  leaf_known w Γ x a b r (inr v) = or_right (is_index Γ.replications x) _ (or_right (is_some (function_in ds x)) (V x) v)
  leaf_known w Γ x a b r (inl (inl i)) = or_left (is_index Γ.replications x) _ i
  leaf_known w Γ x a b r (inl (inr (inl c))) = or_right (is_index Γ.replications x) _ (or_left (is_some (function_in ds x)) (V x) (constants x c))
  leaf_known w Γ x a b r (inl (inr (inr h))) = or_right (is_index Γ.replications x) _ (or_right (is_some (function_in ds x)) (V x) (in_reach Γ (Node (Leaf x) a b) r h))

  cell_known : (Γ : Context) (x : ℕ) (a b : Tree) → Reach Γ → InReach Γ (Node (Read x) a b) ⊎ (V x ≡ true) → V x ≡ true
  cell_known Γ x a b r (inl h) = in_reach Γ (Node (Read x) a b) r h
  cell_known Γ x a b r (inr v) = v

  head_known : (h : Head) (w : Position) (Γ : Context) (a b : Tree) → IsInScope (names_of ds game) w Γ h a b → is_named ds V w h a ≡ true → Here w (Node h a b) → Reach Γ → is_known ds V Γ.replications h ≡ true
  head_known (Leaf x) w Γ a b o n k r = leaf_known w Γ x a b r (leaf_read w Γ x a b o k)
  head_known (Read x) w Γ a b o n k r = cell_known Γ x a b r (cell_read w Γ x a b o k)
  head_known (Apply f) w Γ a b o n k r = named_function w f a n
  head_known h w Γ a b o n k r = refl

  -- the names of a tree

  all_known : (s : Standing) (t : Tree) → IsScopedAt (names_of ds game) s t → are_named ds V s.position t ≡ true → Here s.position t → Reach s.known → AllByRecursion (Agrees F) (sites_from s.known.replications s.place t) → are_known ds V s.known.replications t ≡ true
  unfolding IsObeyed are_named are_known sites_from
  all_known s Empty o n k r A = refl
  all_known s (Node h a b) o n k r A =
      let rs = s.known.replications in
      let p = and_parts (is_named ds V s.position h a) _ n in
      let q = and_parts (are_named ds V (first_position s.position h) a) _ p.1 in
      let here = AllByRecursion_left (Agrees F) (sites_here rs s.place h a) _ A in
      let named = AllByRecursion_left (Agrees F) (named_here rs s.place h a) (channel_here rs s.place h a) here in
      let below = AllByRecursion_right (Agrees F) (sites_here rs s.place h a) _ A in
      let first = AllByRecursion_left (Agrees F) (sites_from rs (first_place s.place h) a) _ below in
      let second = AllByRecursion_right (Agrees F) (sites_from rs (first_place s.place h) a) _ below in
      let e = first_replications s.position h s.known in
      let f = second_replications s.position h a s.known in
      and_from (is_known ds V rs h) _ (head_known h s.position s.known a b (o.0 Unscoped) p.0 k r)
      (and_from (are_known ds V rs a) (are_known ds V (replications_below h rs) b)
      (subst (λ qs. are_known ds V qs a ≡ true) e (all_known (first_standing s h a) a o.1 q.0 (here_first h s.position a b p.0 k) (reach_first h s.position s.known r) (subst (λ qs. AllByRecursion (Agrees F) (sites_from qs (first_place s.place h) a)) (sym e) first)))
      (subst (λ qs. are_known ds V qs b ≡ true) f (all_known (second_standing s h a) b o.2 q.1 (here_second h s.position a b k) (reach_second h s.position a b s.known rs s.place p.0 k named r) (subst (λ qs. AllByRecursion (Agrees F) (sites_from qs (second_place s.place h a) b)) (sym f) second))))

  pub in_scope_known : IsScopedAt (names_of ds game) at_root game → are_named ds V Anywhere game ≡ true → AllByRecursion (Agrees F) (sites_from [] 0 game) → are_known ds V [] game ≡ true
  in_scope_known o n A = all_known at_root game o n tt (record { cells = tt; own = tt }) A
