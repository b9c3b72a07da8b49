-- Both games are served construct by construct, where the second reads for each choice of the variable the cell of its owner.
use Rattle.std.proofs.Common.{◌≡◌, ℕ, zero, suc, ◌==◌, ◌||◌, Bool, true, false, cond, List, [], ◌∷◌, ◌++◌, Option, Some, None, inl, refl, sym, ap, ap₂, subst, ◌∙◌, eq-eqb, eqb-true}
use Rattle.std.proofs.lemmas.Bool.{both_ways}
use Rattle.std.specs.List.{AllByRecursion}
use Rattle.cv_syntax_trees.proofs.lists.Each.{AllByRecursion_append, AllByRecursion_weaker}
use Rattle.cv_syntax_trees.specs.declared.head.Head.{Head}
use Rattle.cv_syntax_trees.specs.declared.head.Head.TheVariants.{Branch, Cons, Event, Find, If, In, Key, Let, New, Out}
use Rattle.cv_syntax_trees.specs.Tree.{Tree, Empty, Node, first_place, second, second_place}
use Rattle.cv_meaning.specs.Interpretation.{Setting}
use Rattle.cv_meaning.specs.Memory.{Happened, Indices, Local, Memory, Store, put, tuple, with_event, with_value}
use Rattle.cv_meaning.specs.Tapes.{Cell, Find_at, New_at, Tape}
use Rattle.cv_meaning.specs.Terms.{is_one, value, values}
use Rattle.cv_meaning.specs.Binders.{bound_to}
use Rattle.cv_meaning.specs.Candidates.{Candidate, candidates, chosen}
use Rattle.cv_meaning.specs.Inputs.{Input}
use Rattle.cv_meaning.specs.Serving.{Second, Sent, Turn, Visit, Yielded, after_find, ended, step, visits}
use Rattle.cv_meaning_runs.specs.Listed.{has_no_calls}
use Rattle.cv_meaning_chances.specs.alignment.Alignment.{GoesOn, both_end, both_first, both_second, left_second, right_second, IsAligned}
use Rattle.cv_meaning_chances.specs.alignment.Points.{Point, turn_of, visits_at}
use Rattle.cv_scope_rules.specs.Context.{Context, cell_of, items}
use Rattle.cv_scope_rules.specs.Made.{made_by}
use Rattle.cv_scope_rules.specs.Phrases.{Phrase, Arm as ArmPhrase, Body, Branches, Else, Guarded, Guards, Inputs, Nil, Then, oracle_parts}
use Rattle.cv_scope_rules.specs.Rules.{IsAmong}
use Rattle.cv_scope_rules.specs.Sites.{Variable}
use Rattle.cv_scope_runs.specs.Reads.{IsKept}
use Rattle.cv_scope_runs.proofs.Candidates.{IsChosen}
use Rattle.cv_scope_runs.proofs.Contexts.{CellHolds, Holds}
use Rattle.cv_scope_runs.proofs.Games.{Game, has_parts, stands_phrase}
use Rattle.cv_scope_runs.proofs.PathRuns.{branch_holds, later_holds, only_variables}
use Rattle.cv_scope_runs.proofs.Rows.{Row, bodies, branch, branches, call, definition, event, find, guarded, guards, input, key, last_body, output, par, repl, restriction, row, stop, test, walks, yield}
use Rattle.cv_scope_runs.proofs.Standing.{Stands, first_below, in_first, in_second, second_below}
use Rattle.cv_scene.specs.Scenes.{names}
use Rattle.cv_steps.specs.Renaming.{renamed}
use Rattle.cv_edit_names.specs.Cells.{with_names}
use Rattle.cv_edit_names.specs.Naming.{Naming, name_at}
use Rattle.cv_edit_names.specs.Splitting.{Around, behind, names_known, message_with_name, split_branches, split_in, with_name}
use Rattle.cv_rule_array_names.proofs.Arms.{Arm, IsAt, IsNth, arm_tree, copy_of, here, later, there, this}
use Rattle.cv_rule_array_names.proofs.Around.{IsTold, among_left, among_right, stands_free, told_owner, tuple_kept, among_holds}
use Rattle.cv_rule_array_names.proofs.Branches.{CopyFact}
use Rattle.cv_rule_array_names.proofs.Copies.{BothOrNone, Copied, chosen_in_order}
use Rattle.cv_rule_array_names.proofs.Finds.{IsSplitting, found_in_order}
use Rattle.cv_rule_array_names.proofs.Points.{AreLikeInputs, AroundAt, HoldsHere, IsExpected, around_behind, around_down, bound_among, holds_here, opened_alike, stands_no_calls}
use Rattle.cv_rule_array_names.proofs.Stores.{AreSplit, Free, bound_split, either_put, free_first, free_second, head_free, is_name}
use Rattle.cv_rule_array_names.proofs.Values.{IsOwned, Unread, unread_first, unread_second, value_named, values_named}

-- a process that a service comes to, or what is behind the last body of an `if`, is no part of a `find`
abbrev pub is_body : Phrase → Bool
is_body Inputs = true
is_body Body = true
is_body Then = true
is_body Else = true
is_body Nil = true
is_body σ = false

body_walks : (σ : Phrase) (h : Head) (q : Phrase × Phrase) → is_body σ ≡ true → oracle_parts σ h ≡ Some q → walks σ ≡ true
body_walks Inputs h q e f = refl
body_walks Body h q e f = refl
body_walks Then h q e f = refl
body_walks Else h q e f = refl
body_walks Nil h q e f = absurd (cc)
body_walks σ h q e f = absurd (both_ways false refl e)

message_second : (n : Naming) (p : ℕ) (a : Tree) → second (message_with_name n p a) ≡ with_name n p (second a)
unfolding renamed
message_second n p Empty = refl
message_second n p (Node h a b) = refl

second_named : (named : List (Tree × ℕ)) (a : Tree) → second (with_names named a) ≡ with_names named (second a)
unfolding with_names
second_named named Empty = refl
second_named named (Node h a b) = refl

free_second_part : (ys : List ℕ) (a : Tree) → Free ys a → Free ys (second a)
unfolding names
free_second_part ys Empty f = λ y e. refl
free_second_part ys (Node h a b) f = free_second ys h a b f

unread_second_part : (x : ℕ) (a : Tree) → Unread x a → Unread x (second a)
unread_second_part x Empty u = u
unread_second_part x (Node h a b) u = unread_second x h a b u

-- cells of the tape that the two runs read in different places
abbrev pub is_moved : ℕ → List ℕ → Cell → Bool
is_moved x ys (New_at z w) = (z == x) || is_name ys z
is_moved x ys c = false

pub record AreTapes (x : ℕ) (ys : List ℕ) (o : List ℕ → ℕ) (t u : Tape) : Type 0 where
  pub owned : (w : List ℕ) → t (New_at x w) ≡ u (New_at (o w) w)
  pub others : (c : Cell) → is_moved x ys c ≡ false → t c ≡ u c

module _ (g : Setting) (variable : ℕ → Bool) (game : Tree) (fine : Game g variable game) (plain : has_no_calls game ≡ true) (n : Naming) (p : IsSplitting game n) (o : List ℕ → ℕ) (owns : (w : List ℕ) → is_name n.names (o w) ≡ true) (end : Store)
    (t u : Tape) (tapes : AreTapes n.variable n.names o t u) where
  abbrev x : ℕ
  x = n.variable

  abbrev ys : List ℕ
  ys = n.names

  pub record AreLikeMemories (m k : Memory) : Type 0 where
    pub store : AreSplit x ys o m.store k.store
    pub events : m.events ≡ k.events
    pub arrays : m.arrays ≡ k.arrays

  abbrev pub Like : Input → Input → Type 0
  Like = AreLikeInputs g variable game fine n p o end

  abbrev pub Expected : Visit → Type 0
  Expected v = IsExpected g variable game fine n p o end v

  abbrev Names : Around → Context → Indices → Type 0
  Names e Γ at = AroundAt g variable game fine n p o end e Γ at

  -- both services are at a process
  pub record Together (a b : Point) (r s : Local) : Type 0 where
    pub phrase : Phrase
    pub body : is_body phrase ≡ true
    pub above : Context
    pub stands : Stands game a.place phrase above a.tree
    pub around : Around
    pub known_names : Names around above r.indices
    pub tree : b.tree ≡ split_in n around a.place a.tree
    pub unread : Unread x b.tree
    pub number : a.number ≡ b.number
    pub bound : a.bound ≡ b.bound
    pub indices : r.indices ≡ s.indices
    pub memory : AreLikeMemories r.memory s.memory

  -- they go on to a branch and to a copy of it
  pub record Towards (a b : Point) (r s : Local) : Type 0 where
    pub above : Context
    pub around : Around
    pub branch : Arm
    pub place : ℕ
    pub copy : Around
    pub stands : Stands game a.place Branches above a.tree
    pub known_names : Names around above r.indices
    pub nth : IsNth a.number a.place a.tree place (arm_tree branch)
    pub at : IsAt b.number b.tree (copy_of n place branch copy)
    pub chosen : IsChosen g r.indices r.memory.store (arm_tree branch) a.bound
    pub fact : CopyFact g n o above r.indices r.memory.store around place branch copy a.bound
    pub unread : Unread x b.tree
    pub bound : a.bound ≡ b.bound
    pub indices : r.indices ≡ s.indices
    pub memory : AreLikeMemories r.memory s.memory

  -- they are at them
  pub record Arrived (a b : Point) (r s : Local) : Type 0 where
    pub above : Context
    pub around : Around
    pub branch : Arm
    pub copy : Around
    pub stands : Stands game a.place ArmPhrase above a.tree
    pub known_names : Names around above r.indices
    pub left : a.tree ≡ arm_tree branch
    pub right : b.tree ≡ copy_of n a.place branch copy
    pub chosen : IsChosen g r.indices r.memory.store (arm_tree branch) a.bound
    pub fact : CopyFact g n o above r.indices r.memory.store around a.place branch copy a.bound
    pub unread : Unread x b.tree
    pub bound : a.bound ≡ b.bound
    pub indices : r.indices ≡ s.indices
    pub memory : AreLikeMemories r.memory s.memory

  -- they are behind the index variables
  pub record AtGuards (a b : Point) (r s : Local) : Type 0 where
    pub above : Context
    pub cells : Tree
    pub condition : Tree
    pub body : Tree
    pub list : Tree
    pub other : Tree
    pub copy : Around
    pub stands : Stands game a.place Guards above a.tree
    pub known_names : Names copy (second_below Guarded Cons condition (second_below Guards Cons cells above)) r.indices
    pub left : a.tree ≡ Node Cons cells (Node Cons condition body)
    pub right : b.tree ≡ Node Cons list (Node Cons other (split_in n copy (second_place (second_place a.place Cons cells) Cons condition) body))
    pub unread : Unread x b.tree
    pub number : a.number ≡ 2
    pub numbers : b.number ≡ 2
    pub bound : a.bound ≡ b.bound
    pub indices : r.indices ≡ s.indices
    pub memory : AreLikeMemories r.memory s.memory

  pub record AtGuarded (a b : Point) (r s : Local) : Type 0 where
    pub above : Context
    pub condition : Tree
    pub body : Tree
    pub other : Tree
    pub copy : Around
    pub stands : Stands game a.place Guarded above a.tree
    pub known_names : Names copy (second_below Guarded Cons condition above) r.indices
    pub left : a.tree ≡ Node Cons condition body
    pub right : b.tree ≡ Node Cons other (split_in n copy (second_place a.place Cons condition) body)
    pub unread : Unread x b.tree
    pub number : a.number ≡ 1
    pub numbers : b.number ≡ 1
    pub bound : a.bound ≡ b.bound
    pub indices : r.indices ≡ s.indices
    pub memory : AreLikeMemories r.memory s.memory

  pub data Go (a b : Point) (r s : Local) : Type 0 where
    together : Together a b r s → Go a b r s
    towards : Towards a b r s → Go a b r s
    arrived : Arrived a b r s → Go a b r s
    at_guards : AtGuards a b r s → Go a b r s
    at_guarded : AtGuarded a b r s → Go a b r s

  abbrev Goes : Tree → Tree → (q v i j : ℕ) → (vs ws : List ℕ) → Local → Local → Turn → Turn → Type 0
  Goes b c q v i j vs ws r s y z = GoesOn AreLikeMemories Like Go (record { tree = b; place = q; number = i; bound = vs }) (record { tree = c; place = v; number = j; bound = ws }) r y z s

  -- two states at the same indices
  module _ (at : Indices) (m k : Memory) (like : AreLikeMemories m k) where
    abbrev r : Local
    r = record { indices = at; memory = m }

    abbrev s : Local
    s = record { indices = at; memory = k }

    stored : (a b : Store) → AreSplit x ys o a b → AreLikeMemories (record m { store = a }) (record k { store = b })
    stored a b e = record { store = e; events = like.events; arrays = like.arrays }

    happened : (e : ℕ) (vs ws : List ℕ) → vs ≡ ws → AreLikeMemories (with_event r e vs).memory (with_event s e ws).memory
    happened e vs ws f = record { store = like.store; events = λ i. like.events i ++ (let d : Happened = record { event = e; values = f i } in d) ∷ []; arrays = like.arrays }

    -- a process that stands in the game
    module _ (q : ℕ) (σ : Phrase) (Γ : Context) (h : Head) (a b : Tree) (st : Stands game q σ Γ (Node h a b)) (e : Around) (ar : Names e Γ at) (ex : Expected (record { place = q; tree = Node h a b; before = r })) where
      -- into the second child
      seconds : (k1 : Head) (c d : Tree) (v i j : ℕ) (vs ws : List ℕ) (ρ : Phrase) (Δ : Context) → is_body ρ ≡ true → Stands game (second_place q h a) ρ Δ b → (f : Around) → Names f Δ at → d ≡ split_in n f (second_place q h a) b → Unread x d
          → (i1 j1 : ℕ) (vs1 ws1 : List ℕ) → i1 ≡ j1 → vs1 ≡ ws1 → (m1 n1 : Memory) → AreLikeMemories m1 n1
          → Goes (Node h a b) (Node k1 c d) q v i j vs ws r s (Second i1 vs1 (record { indices = at; memory = m1 })) (Second j1 ws1 (record { indices = at; memory = n1 }))
      seconds k1 c d v i j vs ws ρ Δ body st1 f names tree unread i1 j1 vs1 ws1 e1 e2 m1 n1 l =
          both_second (together (record { phrase = ρ; body = body; above = Δ; stands = st1; around = f; known_names = names; tree = tree; unread = unread; number = e1; bound = e2; indices = refl; memory = l }))

      yields : (c : Tree) (v i j : ℕ) (vs ws : List ℕ) → Goes (Node h a b) c q v i j vs ws r s (ended Yielded [] r) (ended Yielded [] s)
      yields c v i j vs ws = both_end (record { reply = refl; memory = like; opened = tt })

      free : Free ys (Node h a b)
      free = stands_free ys game p.free st

      -- names of cells are those of owners, where the visit knows what stands above
      module _ (hh : HoldsHere g variable game fine n p o end Γ r) where
        owned_at : (d : Tree × ℕ) → IsTold g variable x o end Γ at d → IsOwned g x ys o at m.store d
        owned_at d t = record { cell = t.cell; owner = told_owner g variable x o end Γ at m.store m.events hh.holds ex.kept d t m.store (λ y w v e. e) }

        all_owned : AllByRecursion (IsOwned g x ys o at m.store) (names_known e)
        all_owned =
            AllByRecursion_append (IsOwned g x ys o at m.store) e.looked_for e.defined
            (AllByRecursion_weaker (IsTold g variable x o end Γ at) (IsOwned g x ys o at m.store) owned_at e.looked_for ar.looked_for)
            (AllByRecursion_weaker (IsTold g variable x o end Γ at) (IsOwned g x ys o at m.store) owned_at e.defined ar.defined)

        value_like : Unread x (with_names (names_known e) a) → value g at m.store a ≡ value g at k.store (with_names (names_known e) a)
        value_like w = value_named g x ys o owns at ex.vars m.store k.store like.store (names_known e) all_owned a (free_first ys h a b free) w

        values_like : Unread x (with_names (names_known e) a) → values g at m.store a ≡ values g at k.store (with_names (names_known e) a)
        values_like w = values_named g x ys o owns at ex.vars m.store k.store like.store (names_known e) all_owned a (free_first ys h a b free) w

        message_like : Unread x (with_names (names_known e) a) → values g at m.store (second a) ≡ values g at k.store (second (with_names (names_known e) a))
        message_like w =
            values_named g x ys o owns at ex.vars m.store k.store like.store (names_known e) all_owned (second a) (free_second_part ys a (free_first ys h a b free)) (subst (λ b. Unread x b) (second_named (names_known e) a) (unread_second_part x (with_names (names_known e) a) w))
            ∙ ap (values g at k.store) (sym (second_named (names_known e) a))

      -- one variable is assigned
      assigns : (z y : ℕ) → is_name ys z ≡ false → ((z == x) ≡ true → o (tuple at) ≡ y) → (v w : ℕ) → v ≡ w → AreLikeMemories (with_value r z v).memory (with_value s (cond (z == x) y z) w).memory
      assigns z y f own v w e =
          stored _ _ (subst (λ w. AreSplit x ys o (put m.store z (tuple at) v) (put k.store (cond (z == x) y z) (tuple at) w)) e (either_put x ys o owns m.store k.store like.store z y f (tuple at) v own))

      drawn : (z y : ℕ) → is_name ys z ≡ false → ((z == x) ≡ true → o (tuple at) ≡ y) → t (New_at z (tuple at)) ≡ u (New_at (cond (z == x) y z) (tuple at))
      drawn z y f own = go (z == x) refl
        where
          go : (b : Bool) → (z == x) ≡ b → t (New_at z (tuple at)) ≡ u (New_at (cond b y z) (tuple at))
          go true i = ap (λ q. t (New_at q (tuple at))) (eqb-true z x i) ∙ tapes.owned (tuple at) ∙ ap (λ q. u (New_at q (tuple at))) (own i)
          go false i = tapes.others (New_at z (tuple at)) (ap₂ (λ p q. p || q) i f)

    -- one construct of a process
    module _ (v i j : ℕ) (vs ws : List ℕ) (e1 : i ≡ j) (e2 : vs ≡ ws) where
      abbrev GoesBoth : (q : ℕ) → Tree → Tree → Turn → Turn → Type 0
      GoesBoth q b c y z = Goes b c q v i j vs ws r s y z

      input_goes : (q c : ℕ) (Γ : Context) (a b : Tree) (st : Stands game q Inputs Γ (Node (In c) a b)) (e : Around) (ar : Names e Γ at) (ex : Expected (record { place = q; tree = Node (In c) a b; before = r })) → Unread x (split_in n e q (Node (In c) a b))
          → GoesBoth q (Node (In c) a b) (split_in n e q (Node (In c) a b)) (step g t (In c) a b q i vs r) (turn_of g u (split_in n e q (Node (In c) a b)) v j ws s)
      unfolding step split_in
      input_goes q c Γ a b st e ar ex w =
          let hh : HoldsHere g variable game fine n p o end Γ r = holds_here g variable game fine n p o end q Inputs Γ (Node (In c) a b) r refl st ex in
          let made : AreSplit x ys o (bound_to m.store (tuple at) (second a) vs) (bound_to k.store (tuple at) (with_name n q (second a)) vs) =
          bound_split x ys o owns (second a) vs m.store k.store like.store (tuple at) (name_at n q) ex.owned (free_second_part ys a (free_first ys (In c) a b (stands_free ys game p.free st))) in
          let both : AreSplit x ys o (bound_to m.store (tuple at) (second a) vs) (bound_to k.store (tuple at) (second (message_with_name n q a)) ws) =
          subst (λ (d : Tree × List ℕ). AreSplit x ys o (bound_to m.store (tuple at) (second a) vs) (bound_to k.store (tuple at) d.0 d.1)) (λ l. (sym (message_second n q a) l, e2 l)) made in
          seconds q Inputs Γ (In c) a b st e ar ex (In c) _ _ v i j vs ws Body (second_below Inputs (In c) a Γ) refl (in_second refl st) (behind n q (In c) a e)
          (around_behind g variable game fine n p o end Γ (second_below Inputs (In c) a Γ) refl (λ l f. among_left l Γ.cells _ f) q (In c) a at hh.matches (λ f. among_right _ Γ.cells _ (bound_among Γ.replications (second a) x f)) ex.owned e ar)
          refl (unread_second x (In c) _ _ w) 0 0 [] [] refl refl _ _ (stored _ _ both)

      assigned_goes : (q : ℕ) (h : Head) (z : ℕ) (Γ Δ : Context) (a b : Tree) (st : Stands game q Body Γ (Node h a b)) (e : Around) (ar : Names e Γ at) (ex : Expected (record { place = q; tree = Node h a b; before = r }))
          → HoldsHere g variable game fine n p o end Γ r → is_name ys z ≡ false → made_by h a (Variable x) ≡ (x == z) → Stands game (second_place q h a) Body Δ b → Δ.replications ≡ Γ.replications → Δ.cells ≡ Γ.cells ++ cell_of Γ.replications z ∷ []
          → (k1 : Head) (c : Tree) → Unread x (Node k1 c (split_in n (behind n q h a e) (second_place q h a) b)) → (v1 w1 : ℕ) → v1 ≡ w1
          → GoesBoth q (Node h a b) (Node k1 c (split_in n (behind n q h a e) (second_place q h a) b)) (Second 0 [] (with_value r z v1)) (Second 0 [] (with_value s (cond (z == x) (name_at n q) z) w1))
      assigned_goes q h z Γ Δ a b st e ar ex hh f site st1 rs cells k1 c w v1 w1 d =
          let owned : (x == z) ≡ true → o (tuple at) ≡ name_at n q = λ l. ex.owned (site ∙ l) in
          let sub : (l : Tree) → IsAmong l Γ.cells → IsAmong l Δ.cells = λ l y. subst (IsAmong l) (sym cells) (among_left l Γ.cells _ y) in
          let own : made_by h a (Variable x) ≡ true → IsAmong (cell_of Γ.replications x) Δ.cells =
          λ y. subst (IsAmong (cell_of Γ.replications x)) (sym cells) (among_right _ Γ.cells _ (inl (ap (cell_of Γ.replications) (eqb-true x z (sym site ∙ y))))) in
          seconds q Body Γ h a b st e ar ex k1 c _ v i j vs ws Body Δ refl st1 (behind n q h a e)
          (around_behind g variable game fine n p o end Γ Δ rs sub q h a at hh.matches own ex.owned e ar) refl (unread_second x k1 c _ w) 0 0 [] [] refl refl _ _
          (assigns q Body Γ h a b st e ar ex z (name_at n q) f (λ l. owned (eq-eqb x z (sym (eqb-true z x l)))) v1 w1 d)

      output_goes : (q c : ℕ) (Γ : Context) (a b : Tree) (st : Stands game q Body Γ (Node (Out c) a b)) (e : Around) (ar : Names e Γ at) (ex : Expected (record { place = q; tree = Node (Out c) a b; before = r })) → Unread x (split_in n e q (Node (Out c) a b))
          → GoesBoth q (Node (Out c) a b) (split_in n e q (Node (Out c) a b)) (step g t (Out c) a b q i vs r) (turn_of g u (split_in n e q (Node (Out c) a b)) v j ws s)
      unfolding step split_in
      output_goes q c Γ a b st e ar ex w =
          let hh : HoldsHere g variable game fine n p o end Γ r = holds_here g variable game fine n p o end q Body Γ (Node (Out c) a b) r refl st ex in
          let same : values g at m.store (second a) ≡ values g at k.store (second (with_names (names_known e) a)) = message_like q Body Γ (Out c) a b st e ar ex hh (unread_first x (Out c) _ _ w) in
          both_end (record {
            reply = λ l. Sent c (tuple at) (same l);
            memory = like;
            opened = opened_alike g variable game fine n p o end b _ _ Γ at m.events e (in_second refl st) hh.matches (later_holds g variable game fine Γ at m.store m.events end m.events ex.kept (λ d l. l) hh.holds) ar (unread_second x (Out c) _ _ w);
          })

      find_chosen : (q l : ℕ) (Γ : Context) (a b : Tree) (st : Stands game q Body Γ (Node (Find l) a b)) (e : Around) (ar : Names e Γ at) (ex : Expected (record { place = q; tree = Node (Find l) a b; before = r })) → (w : Unread x (Node (Find l) (split_branches n e (first_place q (Find l)) a) (split_in n e (second_place q (Find l) a) b)))
          → (c d : Option Candidate) → BothOrNone (Copied g x ys o owns p.apart at m.store k.store n (CopyFact g n o Γ at m.store e) (first_place q (Find l)) a (split_branches n e (first_place q (Find l)) a)) c d
          → GoesBoth q (Node (Find l) a b) (Node (Find l) (split_branches n e (first_place q (Find l)) a) (split_in n e (second_place q (Find l) a) b)) (after_find r c) (after_find s d)
      find_chosen q l Γ a b st e ar ex w None None h = seconds q Body Γ (Find l) a b st e ar ex (Find l) _ _ v i j vs ws Body Γ refl (in_second refl st) e ar refl (unread_second x (Find l) _ _ w) 0 0 [] [] refl refl m k like
      find_chosen q l Γ a b st e ar ex w (Some c) (Some d) h =
          both_first (towards (record {
            above = Γ;
            around = e;
            branch = h.arm;
            place = h.stands;
            copy = h.around;
            stands = in_first refl st;
            known_names = ar;
            nth = h.nth;
            at = h.copy;
            chosen = h.chosen;
            fact = h.fact;
            unread = unread_first x (Find l) _ _ w;
            bound = h.tuple;
            indices = refl;
            memory = like;
          }))
      find_chosen q l Γ a b st e ar ex w None (Some d) h = absurd h
      find_chosen q l Γ a b st e ar ex w (Some c) None h = absurd h

      find_goes : (q l : ℕ) (Γ : Context) (a b : Tree) (st : Stands game q Body Γ (Node (Find l) a b)) (e : Around) (ar : Names e Γ at) (ex : Expected (record { place = q; tree = Node (Find l) a b; before = r })) → Unread x (split_in n e q (Node (Find l) a b))
          → GoesBoth q (Node (Find l) a b) (split_in n e q (Node (Find l) a b)) (step g t (Find l) a b q i vs r) (turn_of g u (split_in n e q (Node (Find l) a b)) v j ws s)
      unfolding step split_in
      find_goes q l Γ a b st e ar ex w =
          let hh : HoldsHere g variable game fine n p o end Γ r = holds_here g variable game fine n p o end q Body Γ (Node (Find l) a b) r refl st ex in
          let found = found_in_order g variable game fine n p o owns end Γ at m.store k.store m.events hh.matches hh.holds ex.kept ex.vars like.store e ar a (first_place q (Find l)) (in_first refl st) ex.own (unread_first x (Find l) _ _ w) in
          let cell : t (Find_at l (tuple at)) ≡ u (Find_at l (tuple at)) = tapes.others (Find_at l (tuple at)) refl in
          find_chosen q l Γ a b st e ar ex w (chosen (candidates g at m.store a) (t (Find_at l (tuple at)))) _
          (subst (λ y. BothOrNone (Copied g x ys o owns p.apart at m.store k.store n (CopyFact g n o Γ at m.store e) (first_place q (Find l)) a (split_branches n e (first_place q (Find l)) a)) (chosen (candidates g at m.store a) (t (Find_at l (tuple at)))) (chosen (candidates g at k.store (split_branches n e (first_place q (Find l)) a)) y))
          cell (chosen_in_order _ _ _ found (t (Find_at l (tuple at)))))

      list_goes : (q : ℕ) (σ τ ρ : Phrase) (Γ : Context) (a b : Tree) (st : Stands game q σ Γ (Node Cons a b)) → oracle_parts σ Cons ≡ Some (τ, ρ) → is_body τ ≡ true → is_body ρ ≡ true → (e : Around) (ar : Names e Γ at) (ex : Expected (record { place = q; tree = Node Cons a b; before = r }))
          → Names e (first_below σ Cons Γ) at → Names e (second_below σ Cons a Γ) at → (w : Unread x (Node Cons (split_in n e (first_place q Cons) a) (split_in n e (second_place q Cons a) b))) → (i1 j1 : ℕ) → i1 ≡ j1
          → Goes (Node Cons a b) (Node Cons (split_in n e (first_place q Cons) a) (split_in n e (second_place q Cons a) b)) q v i1 j1 vs ws r s (step g t Cons a b q i1 vs r) (step g u Cons (split_in n e (first_place q Cons) a) (split_in n e (second_place q Cons a) b) v j1 ws s)
      unfolding step
      list_goes q σ τ ρ Γ a b st parts f1 f2 e ar ex n1 n2 w zero zero d =
          both_first (together (record { phrase = τ; body = f1; above = first_below σ Cons Γ; stands = in_first parts st; around = e; known_names = n1; tree = refl; unread = unread_first x Cons _ _ w; number = refl; bound = e2; indices = refl; memory = like }))
      list_goes q σ τ ρ Γ a b st parts f1 f2 e ar ex n1 n2 w zero (suc j1) d = absurd (cc)
      list_goes q σ τ ρ Γ a b st parts f1 f2 e ar ex n1 n2 w (suc i1) zero d = absurd (cc)
      list_goes q σ τ ρ Γ a b st parts f1 f2 e ar ex n1 n2 w (suc i1) (suc j1) d =
          both_second (together (record { phrase = ρ; body = f2; above = second_below σ Cons a Γ; stands = in_second parts st; around = e; known_names = n2; tree = refl; unread = unread_second x Cons _ _ w; number = (let f : i1 ≡ j1 = cc in f); bound = e2; indices = refl; memory = like }))

      row_goes : (q : ℕ) (σ τ ρ : Phrase) (h : Head) → Row σ h τ ρ → is_body σ ≡ true → (Γ : Context) (a b : Tree) (st : Stands game q σ Γ (Node h a b)) (e : Around) (ar : Names e Γ at) (ex : Expected (record { place = q; tree = Node h a b; before = r })) → Unread x (split_in n e q (Node h a b))
          → GoesBoth q (Node h a b) (split_in n e q (Node h a b)) (step g t h a b q i vs r) (turn_of g u (split_in n e q (Node h a b)) v j ws s)
      unfolding step split_in
      row_goes q σ τ ρ h stop f Γ a b st e ar ex w = yields q σ Γ h a b st e ar ex _ v i j vs ws
      row_goes q σ τ ρ h par f Γ a b st e ar ex w = yields q σ Γ h a b st e ar ex _ v i j vs ws
      row_goes q σ τ ρ h (repl {i = l} {n = y}) f Γ a b st e ar ex w = yields q σ Γ h a b st e ar ex _ v i j vs ws
      row_goes q σ τ ρ h (input {c = c}) f Γ a b st e ar ex w = input_goes q c Γ a b st e ar ex w
      row_goes q σ τ ρ h yield f Γ a b st e ar ex w = yields q σ Γ h a b st e ar ex _ v i j vs ws
      row_goes q σ τ ρ h (output {c = c}) f Γ a b st e ar ex w = output_goes q c Γ a b st e ar ex w
      row_goes q σ τ ρ h (restriction {x = z} {T = T}) f Γ a b st e ar ex w =
          let hh : HoldsHere g variable game fine n p o end Γ r = holds_here g variable game fine n p o end q Body Γ (Node (New z T) a b) r refl st ex in
          let new : is_name ys z ≡ false = head_free ys (New z T) a b z (eq-eqb z z refl) (stands_free ys game p.free st) in
          assigned_goes q (New z T) z Γ (second_below Body (New z T) a Γ) a b st e ar ex hh new refl (in_second refl st) refl refl _ _ w _ _ (drawn q Body Γ (New z T) a b st e ar ex z (name_at n q) new (λ l. ex.owned (eq-eqb x z (sym (eqb-true z x l)))))
      row_goes q σ τ ρ h (definition {x = z} {T = T}) f Γ a b st e ar ex w =
          let hh : HoldsHere g variable game fine n p o end Γ r = holds_here g variable game fine n p o end q Body Γ (Node (Let z T) a b) r refl st ex in
          let new : is_name ys z ≡ false = head_free ys (Let z T) a b z (eq-eqb z z refl) (stands_free ys game p.free st) in
          assigned_goes q (Let z T) z Γ (second_below Body (Let z T) a Γ) a b st e ar ex hh new refl (in_second refl st) refl refl _ _ w _ _ (value_like q Body Γ (Let z T) a b st e ar ex hh (unread_first x _ _ _ w))
      row_goes q σ τ ρ h (key {x = z}) f Γ a b st e ar ex w =
          let hh : HoldsHere g variable game fine n p o end Γ r = holds_here g variable game fine n p o end q Body Γ (Node (Key z) a b) r refl st ex in
          let new : is_name ys z ≡ false = head_free ys (Key z) a b z (eq-eqb z z refl) (stands_free ys game p.free st) in
          assigned_goes q (Key z) z Γ (second_below Body (Key z) a Γ) a b st e ar ex hh new refl (in_second refl st) refl refl _ _ w _ _ refl
      row_goes q σ τ ρ h (call {x = z} {l = l}) f Γ a b st e ar ex w = absurd (both_ways false refl (stands_no_calls game plain st))
      row_goes q σ τ ρ h (event {e = y}) f Γ a b st e ar ex w =
          let hh : HoldsHere g variable game fine n p o end Γ r = holds_here g variable game fine n p o end q Body Γ (Node (Event y) a b) r refl st ex in
          seconds q Body Γ (Event y) a b st e ar ex (Event y) _ _ v i j vs ws Body (second_below Body (Event y) a Γ) refl (in_second refl st) e (around_down g variable game fine n p o end Γ (second_below Body (Event y) a Γ) refl (λ l d. d) at e ar) refl (unread_second x (Event y) _ _ w) 0 0 [] [] refl refl _ _
          (happened y _ _ (values_like q Body Γ (Event y) a b st e ar ex hh (unread_first x (Event y) _ _ w)))
      row_goes q σ τ ρ h test f Γ a b st e ar ex w =
          let hh : HoldsHere g variable game fine n p o end Γ r = holds_here g variable game fine n p o end q Body Γ (Node If a b) r refl st ex in
          seconds q Body Γ If a b st e ar ex If _ _ v i j vs ws Then (second_below Body If a Γ) refl (in_second refl st) e (around_down g variable game fine n p o end Γ (second_below Body If a Γ) refl (λ l d. d) at e ar) refl (unread_second x If _ _ w) _ _ [] []
          (ap (λ y. cond (is_one y) 0 1) (value_like q Body Γ If a b st e ar ex hh (unread_first x If _ _ w))) refl m k like
      row_goes q σ τ ρ h bodies f Γ a b st e ar ex w = list_goes q Then Body Else Γ a b st refl refl refl e ar ex (around_down g variable game fine n p o end Γ (first_below Then Cons Γ) refl (λ l d. d) at e ar) ar w i j e1
      row_goes q σ τ ρ h last_body f Γ a b st e ar ex w = list_goes q Else Body Nil Γ a b st refl refl refl e ar ex (around_down g variable game fine n p o end Γ (first_below Else Cons Γ) refl (λ l d. d) at e ar) ar w i j e1
      row_goes q σ τ ρ h (find {l = l}) f Γ a b st e ar ex w = find_goes q l Γ a b st e ar ex w
      row_goes q σ τ ρ h branches f Γ a b st e ar ex w = absurd (both_ways false refl f)
      row_goes q σ τ ρ h branch f Γ a b st e ar ex w = absurd (both_ways false refl f)
      row_goes q σ τ ρ h guards f Γ a b st e ar ex w = absurd (both_ways false refl f)
      row_goes q σ τ ρ h guarded f Γ a b st e ar ex w = absurd (both_ways false refl f)

      point_goes : (b : Tree) (q : ℕ) (σ : Phrase) (Γ : Context) → is_body σ ≡ true → (st : Stands game q σ Γ b) (e : Around) (ar : Names e Γ at) → AllByRecursion Expected (visits g t b q i vs r) → Unread x (split_in n e q b)
          → GoesBoth q b (split_in n e q b) (turn_of g t b q i vs r) (turn_of g u (split_in n e q b) v j ws s)
      unfolding visits split_in
      point_goes Empty q σ Γ f st e ar all w = both_end (record { reply = refl; memory = like; opened = tt })
      point_goes (Node h a b) q σ Γ f st e ar all w =
          let c = has_parts σ h a b (stands_phrase g variable game fine st) in
          row_goes q σ c.0.0 c.0.1 h (row σ h c.0.0 c.0.1 (body_walks σ h c.0 f c.1) c.1) f Γ a b st e ar all.0 w

    -- on the way to a branch

    towards_goes : (Γ : Context) (e : Around) (arm : Arm) (d : Around) (q i j place : ℕ) (vs ws : List ℕ) (B C b c : Tree) → IsNth i q B place b → b ≡ arm_tree arm → IsAt j C c → c ≡ copy_of n place arm d → Stands game q Branches Γ B → Names e Γ at → IsChosen g at m.store (arm_tree arm) vs
        → CopyFact g n o Γ at m.store e place arm d vs → Unread x C → vs ≡ ws → (v : ℕ) → Goes B C q v i j vs ws r s (turn_of g t B q i vs r) (turn_of g u C v j ws s)
    unfolding step
    towards_goes Γ e arm d q i j place vs ws B C b c (later {a = a} {more = more} nth) f ats l st ar ch fact w same v =
        left_second (towards (record { above = Γ; around = e; branch = arm; place = place; copy = d; stands = in_second refl st; known_names = ar; nth = subst (IsNth _ _ more place) f nth; at = subst (IsAt j C) l ats; chosen = ch; fact = fact; unread = w; bound = same; indices = refl; memory = like }))
    towards_goes Γ e arm d q i j place vs ws B C b c this f (there {a = a} {more = more} ats) l st ar ch fact w same v =
        right_second (towards (record { above = Γ; around = e; branch = arm; place = place; copy = d; stands = st; known_names = ar; nth = subst (IsNth 0 q B place) f this; at = subst (IsAt _ more) l ats; chosen = ch; fact = fact; unread = unread_second x Cons a more w; bound = same; indices = refl; memory = like }))
    towards_goes Γ e arm d q i j place vs ws B C b c this f here l st ar ch fact w same v =
        both_first (arrived (record { above = Γ; around = e; branch = arm; copy = d; stands = in_first refl st; known_names = ar; left = f; right = l; chosen = ch; fact = fact; unread = unread_first x Cons _ _ w; bound = same; indices = refl; memory = like }))

    -- the names around the body of a chosen branch
    body_names : (Γ : Context) (e : Around) (arm : Arm) (q : ℕ) (vs : List ℕ) → Stands game q ArmPhrase Γ (arm_tree arm) → Names e Γ at → IsChosen g at m.store (arm_tree arm) vs → (ex : Expected (record { place = q; tree = arm_tree arm; before = r })) → IsKept (bound_to m.store (tuple at) arm.indices vs) end
        → (d : Around) → CopyFact g n o Γ at m.store e q arm d vs → Names d (second_below Guarded Cons arm.condition (second_below Guards Cons arm.cells (second_below ArmPhrase Branch arm.indices Γ))) at
    body_names Γ e arm q vs st ar ch ex kept d fact =
        let hh : HoldsHere g variable game fine n p o end Γ r = holds_here g variable game fine n p o end q ArmPhrase Γ (arm_tree arm) r refl st ex in
        let Δ : Context = second_below Guarded Cons arm.condition (second_below Guards Cons arm.cells (second_below ArmPhrase Branch arm.indices Γ)) in
        let inner : Store = bound_to m.store (tuple at) arm.indices vs in
        let holding : Holds g variable Δ at inner m.events =
        (branch_holds g variable game fine q Γ arm.indices arm.cells arm.condition arm.body at m.store m.events vs (only_variables g variable game fine m.store m.events ex.holds.stores) st hh.matches hh.holds ex.new ch).body in
        let wide : (c : Tree) → IsAmong c (Γ.cells ++ items arm.cells) → IsAmong c Δ.cells = λ c l. among_left c (Γ.cells ++ items arm.cells) _ l in
        let here_names : Names (behind n q Branch arm.indices e) Δ at =
        around_behind g variable game fine n p o end Γ Δ refl (λ c l. wide c (among_left c Γ.cells _ l)) q Branch arm.indices at hh.matches
        (λ f. among_right (cell_of Γ.replications x) (Γ.cells ++ items arm.cells) _ (among_right (cell_of Γ.replications x) Γ.own _ (bound_among Γ.replications arm.indices x f))) ex.owned e ar in
        subst (λ z. Names z Δ at) (sym fact.around)
        (record {
          replications = here_names.replications;
          looked_for = AllByRecursion_weaker _ (IsTold g variable x o end Δ at)
              (λ c l.
              let among : IsAmong c.0 Δ.cells = wide c.0 l.1 in
              record { cell = l.0; among = among; owner = ap o (tuple_kept g variable x o end at inner end kept c.0 (among_holds (CellHolds g variable at inner) c.0 Δ.cells among holding.cells)) ∙ l.2 })
              fact.looked_for fact.told;
          defined = here_names.defined;
        })

    arrived_goes : (Γ : Context) (e : Around) (arm : Arm) (d : Around) (q i j v : ℕ) (vs ws : List ℕ) → Stands game q ArmPhrase Γ (arm_tree arm) → Names e Γ at → IsChosen g at m.store (arm_tree arm) vs → CopyFact g n o Γ at m.store e q arm d vs → Unread x (copy_of n q arm d) → vs ≡ ws
        → AllByRecursion Expected (visits g t (arm_tree arm) q i vs r) → Goes (arm_tree arm) (copy_of n q arm d) q v i j vs ws r s (turn_of g t (arm_tree arm) q i vs r) (turn_of g u (copy_of n q arm d) v j ws s)
    unfolding step visits
    arrived_goes Γ e arm d q i j v vs ws st ar ch fact w same all =
        let ex : Expected (record { place = q; tree = arm_tree arm; before = r }) = all.0 in
        let kept : IsKept (bound_to m.store (tuple at) arm.indices vs) end = all.1.0.kept in
        let made : AreSplit x ys o (bound_to m.store (tuple at) arm.indices vs) (bound_to k.store (tuple at) (with_name n q arm.indices) ws) =
        subst (λ z. AreSplit x ys o (bound_to m.store (tuple at) arm.indices vs) (bound_to k.store (tuple at) (with_name n q arm.indices) z)) same
        (bound_split x ys o owns arm.indices vs m.store k.store like.store (tuple at) (name_at n q) ex.owned (free_first ys Branch arm.indices _ (stands_free ys game p.free st))) in
        both_second (at_guards (record {
          above = second_below ArmPhrase Branch arm.indices Γ;
          cells = arm.cells;
          condition = arm.condition;
          body = arm.body;
          list = with_names (names_known d) arm.cells;
          other = with_names (names_known d) arm.condition;
          copy = d;
          stands = in_second refl st;
          known_names = body_names Γ e arm q vs st ar ch ex kept d fact;
          left = refl;
          right = refl;
          unread = unread_second x Branch _ _ w;
          number = refl;
          numbers = refl;
          bound = refl;
          indices = refl;
          memory = stored _ _ made;
        }))

    guards_goes : (Γ : Context) (cells c body list other : Tree) (d : Around) (q v : ℕ) (vs ws : List ℕ) → Stands game q Guards Γ (Node Cons cells (Node Cons c body)) → Names d (second_below Guarded Cons c (second_below Guards Cons cells Γ)) at
        → Unread x (Node Cons list (Node Cons other (split_in n d (second_place (second_place q Cons cells) Cons c) body))) → vs ≡ ws
        → Goes (Node Cons cells (Node Cons c body)) (Node Cons list (Node Cons other (split_in n d (second_place (second_place q Cons cells) Cons c) body))) q v 2 2 vs ws r s (turn_of g t (Node Cons cells (Node Cons c body)) q 2 vs r) (turn_of g u (Node Cons list (Node Cons other (split_in n d (second_place (second_place q Cons cells) Cons c) body))) v 2 ws s)
    unfolding step
    guards_goes Γ cells c body list other d q v vs ws st ar w same =
        both_second (at_guarded (record { above = second_below Guards Cons cells Γ; condition = c; body = body; other = other; copy = d; stands = in_second refl st; known_names = ar; left = refl; right = refl; unread = unread_second x Cons _ _ w; number = refl; numbers = refl; bound = same; indices = refl; memory = like }))

    guarded_goes : (Γ : Context) (c body other : Tree) (d : Around) (q v : ℕ) (vs ws : List ℕ) → Stands game q Guarded Γ (Node Cons c body) → Names d (second_below Guarded Cons c Γ) at
        → Unread x (Node Cons other (split_in n d (second_place q Cons c) body)) → vs ≡ ws
        → Goes (Node Cons c body) (Node Cons other (split_in n d (second_place q Cons c) body)) q v 1 1 vs ws r s (turn_of g t (Node Cons c body) q 1 vs r) (turn_of g u (Node Cons other (split_in n d (second_place q Cons c) body)) v 1 ws s)
    unfolding step
    guarded_goes Γ c body other d q v vs ws st ar w same =
        both_second (together (record { phrase = Body; body = refl; above = second_below Guarded Cons c Γ; stands = in_second refl st; around = d; known_names = ar; tree = refl; unread = unread_second x Cons _ _ w; number = refl; bound = same; indices = refl; memory = like }))

  -- from each of these points the services go on

  abbrev GoesOnAt : (a b : Point) (r s : Local) → Type 0
  GoesOnAt a b r s = GoesOn AreLikeMemories Like Go a b r (turn_of g t a.tree a.place a.number a.bound r) (turn_of g u b.tree b.place b.number b.bound s) s

  together_goes : (a b : Point) (r s : Local) → Together a b r s → AllByRecursion Expected (visits_at g t a r) → GoesOnAt a b r s
  together_goes a b r s l all =
      subst (λ (z : Tree × Indices). GoesOnAt a (record b { tree = z.0 }) r (record s { indices = z.1 })) (λ i. (sym l.tree i, l.indices i))
      (point_goes r.indices r.memory s.memory l.memory b.place a.number b.number a.bound b.bound l.number l.bound a.tree a.place l.phrase l.above l.body l.stands l.around l.known_names all (subst (Unread x) l.tree l.unread))

  to_branch : (a b : Point) (r s : Local) → Towards a b r s → GoesOnAt a b r s
  to_branch a b r s l =
      subst (λ z. GoesOnAt a b r (record s { indices = z })) l.indices
      (towards_goes r.indices r.memory s.memory l.memory l.above l.around l.branch l.copy a.place a.number b.number l.place a.bound b.bound a.tree b.tree _ _ l.nth refl l.at refl l.stands l.known_names l.chosen l.fact l.unread l.bound b.place)

  at_branch : (a b : Point) (r s : Local) → Arrived a b r s → AllByRecursion Expected (visits_at g t a r) → GoesOnAt a b r s
  at_branch a b r s l all =
      subst (λ (z : Tree × Tree × Indices). GoesOnAt (record a { tree = z.0 }) (record b { tree = z.1 }) r (record s { indices = z.2 })) (λ i. (sym l.left i, sym l.right i, l.indices i))
      (arrived_goes r.indices r.memory s.memory l.memory l.above l.around l.branch l.copy a.place a.number b.number b.place a.bound b.bound (subst (Stands game a.place ArmPhrase l.above) l.left l.stands) l.known_names l.chosen l.fact (subst (Unread x) l.right l.unread) l.bound
      (subst (λ z. AllByRecursion Expected (visits g t z a.place a.number a.bound r)) l.left all))

  guards_at : (a b : Point) (r s : Local) → AtGuards a b r s → GoesOnAt a b r s
  guards_at a b r s l =
      subst (λ (z : Tree × Tree × Indices × ℕ × ℕ). GoesOnAt (record a { tree = z.0; number = z.3 }) (record b { tree = z.1; number = z.4 }) r (record s { indices = z.2 })) (λ i. (sym l.left i, sym l.right i, l.indices i, sym l.number i, sym l.numbers i))
      (guards_goes r.indices r.memory s.memory l.memory l.above l.cells l.condition l.body l.list l.other l.copy a.place b.place a.bound b.bound (subst (Stands game a.place Guards l.above) l.left l.stands) l.known_names (subst (Unread x) l.right l.unread) l.bound)

  guarded_at : (a b : Point) (r s : Local) → AtGuarded a b r s → GoesOnAt a b r s
  guarded_at a b r s l =
      subst (λ (z : Tree × Tree × Indices × ℕ × ℕ). GoesOnAt (record a { tree = z.0; number = z.3 }) (record b { tree = z.1; number = z.4 }) r (record s { indices = z.2 })) (λ i. (sym l.left i, sym l.right i, l.indices i, sym l.number i, sym l.numbers i))
      (guarded_goes r.indices r.memory s.memory l.memory l.above l.condition l.body l.other l.copy a.place b.place a.bound b.bound (subst (Stands game a.place Guarded l.above) l.left l.stands) l.known_names (subst (Unread x) l.right l.unread) l.bound)

  pub services_aligned : IsAligned AreLikeMemories Like Go Expected g g t u
  services_aligned a b r s (together l) all = together_goes a b r s l all
  services_aligned a b r s (towards l) all = to_branch a b r s l
  services_aligned a b r s (arrived l) all = at_branch a b r s l all
  services_aligned a b r s (at_guards l) all = guards_at a b r s l
  services_aligned a b r s (at_guarded l) all = guarded_at a b r s l
