-- A branch of the next game's find is a candidate exactly where the call is one for the side: it was made, and
-- under this key.
use Rattle.std.proofs.Common.{◌≡◌, ℕ, ◌+◌, ◌≤◌, arith, Bool, true, false, cond, ◌||◌, ◌&&◌, ◌==◌, List, inl, inr, Option, Some, None, refl, sym, ap, ap₂, subst, ◌∙◌, map, length, is_some}
use Rattle.std.proofs.lemmas.Bool.{both_ways}
use Rattle.std.specs.List.{AllByRecursion}
use Rattle.cv_syntax_trees.specs.declared.head.Head.TheVariants.{Leaf, Read, Cons}
use Rattle.cv_syntax_trees.specs.Tree.{Tree, Empty, Node, first, binders}
use Rattle.cv_meaning.specs.Tapes.{same_tuple}
use Rattle.cv_meaning.specs.Side.{CallNumber}
use Rattle.cv_meaning.specs.Memory.{Store, tuple}
use Rattle.cv_meaning.specs.Terms.{is_one, found_in, value, values}
use Rattle.cv_meaning.specs.Binders.{fits, bound_to}
use Rattle.cv_meaning.specs.Candidates.{is_assigned, are_assigned, is_candidate}
use Rattle.cv_meaning_laws.specs.Agreement.{AgreeOn}
use Rattle.cv_meaning_laws.proofs.Counts.{same_tuple_exact, same_tuple_refl}
use Rattle.cv_meaning.specs.contexts.Frames.{IsCall, Frame, with_call, meaning_of}
use Rattle.cv_meaning.specs.contexts.BodyTerms.{call_meant, call_at, array_at, body_value}
use Rattle.cv_meaning.specs.contexts.Finds.{is_made, are_made, is_pick}
use Rattle.cv_meaning.specs.contexts.Made.{is_index, has_cell_at}
use Rattle.cv_inline.specs.bodies.Inlining.{Inlining}
use Rattle.cv_inline.specs.bodies.Accepted.{IsFineArray, IsFineTerm, AreFineCells, IsNeverAssigned, is_assigned_above}
use Rattle.cv_meaning.specs.contexts.KeyTerms.{AreFineKeyTerms}
use Rattle.cv_inline.specs.bodies.Related.{MadeUnder, at_its_key, indices_at, this_call, IsMeant, HasArrays}
use Rattle.cv_meaning.specs.contexts.Inlined.{Caller, CallOf, Scope, standing_of, index_terms, called, call_in, array_in_game, all_equal, in_game, own_variable, cell_in_game, cells_in_game, moved, needed, each_once, is_index_of, branch_indices, index_moves, index_reads, cells_then, with_call_of}
use Rattle.cv_inline.proofs.bodies.Terms.{Agrees, SameCall, calls_same, value_in, equal_value, read_assigned}
use Rattle.cv_inline.proofs.bodies.Keys.{AreNames, moves_to, index_tuple, fits_length, terms_moved, key_cells, cells_behind}

module _ (p : Inlining) where
  -- m is the store as the find begins
  module _ (κ : MadeUnder) (Σ : Scope) (e : Frame) (n m : Store) (ag : Agrees p κ Σ e n) (before : HasArrays p κ e.arrays m) (number : e.number ≡ this_call p) (mine : κ (this_call p) ≡ Some e.key) where
    cell_in : (v : ℕ) (k : Option (ℕ × Tree)) (o : Option CallNumber) → SameCall p κ e.key n k o → IsFineArray p v k → is_assigned p.g p.at m n (array_in_game p.d v k) ≡ is_some (array_at e v o)
    cell_in v (Some k) (Some o) h f =
        let has : p.has o.site v ≡ true = subst (λ s. p.has s v ≡ true) h.0 f in
        read_assigned p (p.d.variable k.0 v) k.1 m n
        ∙ ap is_some (ap₂ (λ s w. m (p.d.variable s v) w) h.0 h.1
        ∙ sym (before v e.key o has ∙ ap (λ q. at_its_key q e.key (m (p.d.variable o.site v) o.tuple)) h.2 ∙ ap (λ b. cond b (m (p.d.variable o.site v) o.tuple) None) (same_tuple_refl e.key)))
    cell_in v None o h f = absurd f
    cell_in v (Some k) None h f = absurd h

    pub cells_in : (cells : Tree) → AreFineCells p Σ cells → are_assigned p.g p.at m n (cells_in_game p.d p.c Σ cells) ≡ are_made e cells
    unfolding in_game cells_in_game
    cells_in Empty f = refl
    cells_in (Node Cons (Node (Read v) a b) more) f =
        ap₂ (λ (x y : Bool). elim x [ true ↦ y | false ↦ false ]) (cell_in v (call_in Σ (first a)) (call_at e (first a)) (calls_same p κ Σ e n ag (first a)) f.0) (cells_in more f.1)
    cells_in (Node Cons (Node (Leaf x) a b) more) f =
        ap₂ (λ (y z : Bool). elim y [ true ↦ z | false ↦ false ])
        (read_assigned p (p.d.variable p.c.number x) (index_terms p.c.replications) m n
        ∙ ap is_some (ap (m (p.d.variable p.c.number x)) (p.here n)
        ∙ sym (ap (e.arrays x e.key) number ∙ before x e.key (this_call p) f.0 ∙ ap (λ q. at_its_key q e.key (m (p.d.variable p.c.number x) (tuple p.at))) mine ∙ ap (λ b. cond b (m (p.d.variable p.c.number x) (tuple p.at)) None) (same_tuple_refl e.key))))
        (cells_in more f.1)
    cells_in _ f = absurd f

  module _ (plain : ℕ → Bool) (apart : (x : ℕ) → plain x ≡ true → found_in p.at x ≡ None) (name : ℕ → ℕ)
      (κ : MadeUnder) (Σ : Scope) (e : Frame) (n : Store) (s : Caller) (names : AreNames p.drawn name (length s.replications)) (u : ℕ) (w : List ℕ) (own : (x : ℕ) → plain x ≡ true → is_index_of s.replications x ≡ false) (key_fine : AreFineKeyTerms (is_index_of s.replications) plain s.key) where
    all_few : 0 + length s.replications ≤ length s.replications
    all_few = omega arith

    abbrev call : CallNumber
    call = record { tuple = w; site = s.number }

    abbrev Τ : Scope
    Τ = with_call_of Σ u (index_terms p.c.replications) name s

    abbrev e' : Frame
    e' = with_call e u call

    abbrev n' : Store
    n' = bound_to n (tuple p.at) (binders (branch_indices name 0 s.replications)) w

    abbrev moves : List (ℕ × Tree)
    moves = index_moves (index_terms p.c.replications) name 0 s.replications

    -- what is known of the call as the find begins
    pub record IsKnown : Type 0 where
      pub arrays : HasArrays p κ e.arrays n
      pub unmade : κ call ≡ None → (v : ℕ) → p.has s.number v ≡ true → n (p.d.variable s.number v) w ≡ None
      pub key : (k : List ℕ) → κ call ≡ Some k → values p.g (indices_at s.replications w) n s.key ≡ k
      pub needed : (k : List ℕ) → κ call ≡ Some k → AllByRecursion (λ r. is_assigned p.g (indices_at s.replications w) n n r ≡ true) (needed (is_index_of s.replications) s.key)
      pub lengths : (k : List ℕ) → κ call ≡ Some k → length k ≡ length e.key
      -- with the indices of the branch
      pub kept : AgreeOn plain n n'
      pub here : values p.g p.at n' p.c.key ≡ e.key
      pub arrays' : HasArrays p κ e.arrays n'
      pub number : e.number ≡ this_call p
      pub mine : κ (this_call p) ≡ Some e.key
      pub unassigned : (x : ℕ) → p.has p.c.number x ≡ true → is_assigned_above Σ x ≡ false → n (p.d.variable p.c.number x) (tuple p.at) ≡ None
      pub names' : (x : ℕ) → IsMeant p κ e.key n' x (standing_of Σ x) (meaning_of e.names x)

    -- the array of the call at this key, if it was not made under it
    no_array : IsKnown → (o : Option (List ℕ)) → κ call ≡ o → ((k : List ℕ) → o ≡ Some k → same_tuple k e.key ≡ false) → (v : ℕ) → p.has s.number v ≡ true → e.arrays v e.key call ≡ None
    no_array h None q d v f = h.arrays v e.key call f ∙ ap (λ o. at_its_key o e.key (n (p.d.variable s.number v) w)) q
    no_array h (Some k) q d v f = h.arrays v e.key call f ∙ ap (λ o. at_its_key o e.key (n (p.d.variable s.number v) w)) q ∙ ap (λ b. cond b (n (p.d.variable s.number v) w) None) (d k refl)

    own_call : (i : Tree) → is_index u i ≡ true → (call_in Τ i ≡ Some (s.number, index_reads (index_terms p.c.replications) name 0 s.replications)) × (call_at e' i ≡ Some call)
    own_call (Node (Leaf x) a b) q =
        (ap (λ b. called (cond b (Some (CallOf s.number (index_reads (index_terms p.c.replications) name 0 s.replications))) (standing_of Σ x))) q, ap (λ b. call_meant (cond b (Some (IsCall call)) (meaning_of e.names x))) q)
    own_call i q = absurd (both_ways _ refl q)

    not_made : ((v : ℕ) → p.has s.number v ≡ true → e.arrays v e.key call ≡ None) → (cells : Tree) → AreFineCells p Τ cells → has_cell_at u cells ≡ true → are_made e' cells ≡ false
    not_made none Empty f q = absurd (both_ways _ refl q)
    not_made none (Node Cons (Node (Read v) a b) more) f q = go (is_index u (first a)) refl q (not_made none more f.1)
      where
        go : (z : Bool) → is_index u (first a) ≡ z → (z || has_cell_at u more) ≡ true → (has_cell_at u more ≡ true → are_made e' more ≡ false)
            → (elim (is_some (array_at e' v (call_at e' (first a)))) [ true ↦ are_made e' more | false ↦ false ]) ≡ false
        go true z q ih =
            let c = own_call (first a) z in
            let has : p.has s.number v ≡ true = subst (IsFineArray p v) c.0 f.0 in
            ap (λ o. elim (is_some (array_at e' v o)) [ true ↦ are_made e' more | false ↦ false ]) c.1 ∙ ap (λ o. elim (is_some o) [ true ↦ are_made e' more | false ↦ false ]) (none v has)
        go false z q ih = other (is_some (array_at e' v (call_at e' (first a)))) (ih q)
          where
            other : (b : Bool) → are_made e' more ≡ false → (elim b [ true ↦ are_made e' more | false ↦ false ]) ≡ false
            other true r = r
            other false r = refl
    not_made none (Node Cons (Node (Leaf x) a b) more) f q = go (is_some (e.arrays x e.key e.number)) (not_made none more f.1 q)
      where
        go : (b : Bool) → are_made e' more ≡ false → (elim b [ true ↦ are_made e' more | false ↦ false ]) ≡ false
        go true r = r
        go false r = refl
    not_made none _ f q = absurd f

    module _ (f : fits p.g.interpretation.parameter_value (binders (branch_indices name 0 s.replications)) w ≡ true) where
      not_assigned : ((v : ℕ) → p.has s.number v ≡ true → n (p.d.variable s.number v) w ≡ None) → (cells : Tree) → AreFineCells p Τ cells → has_cell_at u cells ≡ true → are_assigned p.g p.at n n' (cells_in_game p.d p.c Τ cells) ≡ false
      unfolding in_game cells_in_game
      not_assigned none Empty fc q = absurd (both_ways _ refl q)
      not_assigned none (Node Cons (Node (Read v) a b) more) fc q = go (is_index u (first a)) refl q (not_assigned none more fc.1)
        where
          more' : Bool
          more' = are_assigned p.g p.at n n' (cells_in_game p.d p.c Τ more)

          go : (z : Bool) → is_index u (first a) ≡ z → (z || has_cell_at u more) ≡ true → (has_cell_at u more ≡ true → are_assigned p.g p.at n n' (cells_in_game p.d p.c Τ more) ≡ false)
              → (elim (is_assigned p.g p.at n n' (array_in_game p.d v (call_in Τ (first a)))) [ true ↦ are_assigned p.g p.at n n' (cells_in_game p.d p.c Τ more) | false ↦ false ]) ≡ false
          go true z q ih =
              let c = own_call (first a) z in
              let has : p.has s.number v ≡ true = subst (IsFineArray p v) c.0 fc.0 in
              ap (λ b. elim b [ true ↦ are_assigned p.g p.at n n' (cells_in_game p.d p.c Τ more) | false ↦ false ])
              (ap (λ k. is_assigned p.g p.at n n' (array_in_game p.d v k)) c.0 ∙ read_assigned p (p.d.variable s.number v) (index_reads (index_terms p.c.replications) name 0 s.replications) n n'
              ∙ ap (λ t. is_some (n (p.d.variable s.number v) t)) (index_tuple p name (length s.replications) names p.g.interpretation.parameter_value s.replications w 0 n all_few f) ∙ ap is_some (none v has))
          go false z q ih = other (is_assigned p.g p.at n n' (array_in_game p.d v (call_in Τ (first a)))) (ih q)
            where
              other : (b : Bool) → are_assigned p.g p.at n n' (cells_in_game p.d p.c Τ more) ≡ false → (elim b [ true ↦ are_assigned p.g p.at n n' (cells_in_game p.d p.c Τ more) | false ↦ false ]) ≡ false
              other true r = r
              other false r = refl
      not_assigned none (Node Cons (Node (Leaf x) a b) more) fc q = go (is_assigned p.g p.at n n' (own_variable p.d p.c x)) (not_assigned none more fc.1 q)
        where
          go : (b : Bool) → are_assigned p.g p.at n n' (cells_in_game p.d p.c Τ more) ≡ false → (elim b [ true ↦ are_assigned p.g p.at n n' (cells_in_game p.d p.c Τ more) | false ↦ false ]) ≡ false
          go true r = r
          go false r = refl
      not_assigned none _ fc q = absurd fc

      abbrev list : Tree → Tree
      list cells = cells_then (map (moved moves) (each_once (needed (is_index_of s.replications) s.key))) (cells_in_game p.d p.c Τ cells)

      abbrev test : Tree → Tree
      test condition = all_equal (moved moves s.key) p.c.key (in_game p.d p.c Τ condition)

      by : Bool → Bool → Bool
      by a b = elim a [ true ↦ b | false ↦ false ]

      never : (a : Bool) → (elim a [ true ↦ false | false ↦ false ]) ≡ false
      never true = refl
      never false = refl

      -- the key of the call, read in the branch
      other_key : IsKnown → (k : List ℕ) → κ call ≡ Some k → values p.g p.at n' (moved moves s.key) ≡ k
      other_key h k q = terms_moved p name (length s.replications) names plain apart s.replications own n n' h.kept moves w (fits_length p name (length s.replications) names p.g.interpretation.parameter_value s.replications w 0 f) (moves_to p name (length s.replications) names p.g.interpretation.parameter_value s.replications w 0 n all_few f) s.key key_fine ∙ h.key k q

      tested : IsKnown → (k : List ℕ) → κ call ≡ Some k → (condition : Tree) → is_one (value p.g p.at n' (test condition)) ≡ (same_tuple k e.key && is_one (value p.g p.at n' (in_game p.d p.c Τ condition)))
      tested h k q condition =
          equal_value p (moved moves s.key) p.c.key (in_game p.d p.c Τ condition) n' (ap length (other_key h k q) ∙ h.lengths k q ∙ sym (ap length h.here))
          ∙ ap₂ (λ a b. same_tuple a b && is_one (value p.g p.at n' (in_game p.d p.c Τ condition))) (other_key h k q) h.here

      pub same_bodies : (cells condition body body' : Tree) → IsKnown → (p.arity s.number ≡ length s.replications) → AreFineCells p Τ cells → IsFineTerm p Τ condition → has_cell_at u cells ≡ true → (o : Option (List ℕ)) → κ call ≡ o
          → is_candidate p.g p.at n n' (Node Cons (list cells) (Node Cons (test condition) body)) ≡ is_pick p.g e' (Node Cons cells (Node Cons condition body'))
      same_bodies cells condition body body' h ar fc fm q None z =
          ap (λ b. elim b [ true ↦ is_one (value p.g p.at n' (test condition)) | false ↦ false ])
          (cells_behind p.g p.at n n' (map (moved moves) (each_once (needed (is_index_of s.replications) s.key))) (cells_in_game p.d p.c Τ cells) (not_assigned (h.unmade z) cells fc q))
          ∙ sym (ap (λ b. elim b [ true ↦ is_one (body_value p.g e' condition) | false ↦ false ]) (not_made (no_array h None z (λ k c. cc)) cells fc q))
      same_bodies cells condition body body' h ar fc fm q (Some k) z = go (same_tuple k e.key) refl
        where
          go : (b : Bool) → same_tuple k e.key ≡ b → is_candidate p.g p.at n n' (Node Cons (list cells) (Node Cons (test condition) body)) ≡ is_pick p.g e' (Node Cons cells (Node Cons condition body'))
          go false d =
              ap (λ b. elim (are_assigned p.g p.at n n' (list cells)) [ true ↦ b | false ↦ false ]) (tested h k z condition ∙ ap (λ b. b && is_one (value p.g p.at n' (in_game p.d p.c Τ condition))) d)
              ∙ never (are_assigned p.g p.at n n' (list cells))
              ∙ sym (ap (λ b. elim b [ true ↦ is_one (body_value p.g e' condition) | false ↦ false ]) (not_made (no_array h (Some k) z (λ j c. let i : k ≡ j = cc in ap (λ y. same_tuple y e.key) (sym i) ∙ d)) cells fc q))
          go true d =
              let ag : Agrees p κ Τ e' n' = record { arrays = h.arrays'; names = λ x. named x (u == x) } in
              ap₂ (λ (x y : Bool). elim x [ true ↦ y | false ↦ false ])
              (key_cells p name (length s.replications) names plain apart s.replications own n n' h.kept moves w (fits_length p name (length s.replications) names p.g.interpretation.parameter_value s.replications w 0 f) (moves_to p name (length s.replications) names p.g.interpretation.parameter_value s.replications w 0 n all_few f) s.key (cells_in_game p.d p.c Τ cells) key_fine (h.needed k z)
              ∙ cells_in κ Τ e' n' n ag h.arrays h.number h.mine cells fc)
              (tested h k z condition ∙ ap (λ b. b && is_one (value p.g p.at n' (in_game p.d p.c Τ condition))) d ∙ ap is_one (value_in p κ Τ e' n' ag condition fm))
            where
              named : (x : ℕ) (b : Bool) → IsMeant p κ e.key n' x (cond b (Some (CallOf s.number (index_reads (index_terms p.c.replications) name 0 s.replications))) (standing_of Σ x)) (cond b (Some (IsCall call)) (meaning_of e.names x))
              named x true = (refl, index_tuple p name (length s.replications) names p.g.interpretation.parameter_value s.replications w 0 n all_few f, z ∙ ap Some (same_tuple_exact k e.key d), fits_length p name (length s.replications) names p.g.interpretation.parameter_value s.replications w 0 f ∙ sym ar)
              named x false = h.names' x

      -- a candidate was made under this key
      pub picked_made : (cells condition body : Tree) → IsKnown → AreFineCells p Τ cells → has_cell_at u cells ≡ true → (o : Option (List ℕ)) → κ call ≡ o → is_pick p.g e' (Node Cons cells (Node Cons condition body)) ≡ true → κ call ≡ Some e.key
      picked_made cells condition body h fc q None z i =
          absurd (both_ways _ (ap (λ b. elim b [ true ↦ is_one (body_value p.g e' condition) | false ↦ false ]) (not_made (no_array h None z (λ k c. cc)) cells fc q)) i)
      picked_made cells condition body h fc q (Some k) z i = go (same_tuple k e.key) refl
        where
          go : (b : Bool) → same_tuple k e.key ≡ b → κ call ≡ Some e.key
          go true d = z ∙ ap Some (same_tuple_exact k e.key d)
          go false d = absurd (both_ways _ (ap (λ b. elim b [ true ↦ is_one (body_value p.g e' condition) | false ↦ false ]) (not_made (no_array h (Some k) z (λ j c. let i : k ≡ j = cc in ap (λ y. same_tuple y e.key) (sym i) ∙ d)) cells fc q)) i)

      -- a branch whose list has a name that isn't assigned above is no candidate

      after_one : (a b : Bool) → b ≡ false → (elim a [ true ↦ b | false ↦ false ]) ≡ false
      after_one true b e = e
      after_one false b e = refl

      never_made : IsKnown → (cells : Tree) → IsNeverAssigned p Σ cells → are_made e' cells ≡ false
      never_made h (Node j (Node (Leaf x) a b) more) (inl z) =
          ap (λ o. elim (is_some o) [ true ↦ are_made e' more | false ↦ false ])
          (ap (e.arrays x e.key) h.number ∙ h.arrays x e.key (this_call p) z.0 ∙ ap (λ o. at_its_key o e.key (n (p.d.variable p.c.number x) (tuple p.at))) h.mine
          ∙ ap (λ b. cond b (n (p.d.variable p.c.number x) (tuple p.at)) None) (same_tuple_refl e.key) ∙ h.unassigned x z.0 z.1)
      never_made h (Node j (Node (Leaf x) a b) more) (inr z) = after_one (is_made e' (Node (Leaf x) a b)) (are_made e' more) (never_made h more z)
      never_made h (Node j a more) z = after_one (is_made e' a) (are_made e' more) (never_made h more z)
      never_made h Empty z = absurd z

      never_assigned : IsKnown → (cells : Tree) → IsNeverAssigned p Σ cells → are_assigned p.g p.at n n' (cells_in_game p.d p.c Τ cells) ≡ false
      unfolding cells_in_game
      never_assigned h (Node j (Node (Leaf x) a b) more) (inl z) =
          ap (λ b. elim b [ true ↦ are_assigned p.g p.at n n' (cells_in_game p.d p.c Τ more) | false ↦ false ])
          (read_assigned p (p.d.variable p.c.number x) (index_terms p.c.replications) n n' ∙ ap (λ w. is_some (n (p.d.variable p.c.number x) w)) (p.here n') ∙ ap is_some (h.unassigned x z.0 z.1))
      never_assigned h (Node j (Node (Leaf x) a b) more) (inr z) = after_one (is_assigned p.g p.at n n' (own_variable p.d p.c x)) (are_assigned p.g p.at n n' (cells_in_game p.d p.c Τ more)) (never_assigned h more z)
      never_assigned h (Node j a more) z = after_one (is_assigned p.g p.at n n' (cell_in_game p.d p.c Τ a)) (are_assigned p.g p.at n n' (cells_in_game p.d p.c Τ more)) (never_assigned h more z)
      never_assigned h Empty z = absurd z

      pub no_candidate_there : (cells rest : Tree) → IsKnown → IsNeverAssigned p Σ cells → is_candidate p.g p.at n n' (Node Cons (list cells) rest) ≡ false
      no_candidate_there cells rest h z =
          ap (λ b. elim b [ true ↦ is_one (value p.g p.at n' (first rest)) | false ↦ false ])
          (cells_behind p.g p.at n n' (map (moved moves) (each_once (needed (is_index_of s.replications) s.key))) (cells_in_game p.d p.c Τ cells) (never_assigned h cells z))

      pub no_pick_there : (cells rest : Tree) → IsKnown → IsNeverAssigned p Σ cells → is_pick p.g e' (Node Cons cells rest) ≡ false
      no_pick_there cells rest h z = ap (λ b. elim b [ true ↦ is_one (body_value p.g e' (first rest)) | false ↦ false ]) (never_made h cells z)
