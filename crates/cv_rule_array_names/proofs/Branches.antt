-- A visited `find` and the one with copies of its branches: their candidates go with each other in order.
use Rattle.std.proofs.Common.{◌≡◌, ℕ, ◌==◌, Bool, true, false, cond, List, [], ◌∷◌, ◌++◌, Option, Some, None, is_some, refl, sym, ap, subst, ◌∙◌, eq-eqb, eqb-true}
use Rattle.std.proofs.lemmas.Bool.{both_ways}
use Rattle.std.specs.List.{AllByRecursion}
use Rattle.cv_syntax_trees.proofs.lists.Each.{AllByRecursion_append, AllByRecursion_weaker}
use Rattle.cv_syntax_trees.specs.declared.head.Head.TheVariants.{Branch, Cons, Leaf, Read}
use Rattle.cv_syntax_trees.specs.Tree.{Tree, Empty, Node, second}
use Rattle.cv_meaning.specs.Interpretation.{Setting}
use Rattle.cv_meaning.specs.Memory.{Happened, Indices, Store, tuple}
use Rattle.cv_meaning.specs.Terms.{is_one, value, values}
use Rattle.cv_meaning.specs.Binders.{bound_to}
use Rattle.cv_meaning.specs.Candidates.{are_assigned, is_assigned, is_candidate}
use Rattle.cv_scope_rules.specs.Context.{Context, cell_of, items}
use Rattle.cv_scope_rules.specs.Made.{is_bound}
use Rattle.cv_scope_rules.specs.Phrases.{Arm as ArmPhrase}
use Rattle.cv_scope_rules.specs.Rules.{IsAmong}
use Rattle.cv_scope_runs.specs.Reads.{IsKept}
use Rattle.cv_scope_runs.proofs.Contexts.{Holds, Matches, bound_later}
use Rattle.cv_scope_runs.proofs.Games.{Game, stands_asked}
use Rattle.cv_scope_runs.proofs.Standing.{Stands}
use Rattle.cv_edit_names.specs.Cells.{are_mixed, cells_in, first_unnamed, is_cell_of, with_names}
use Rattle.cv_edit_names.specs.Naming.{Naming, name_at}
use Rattle.cv_edit_names.specs.Splitting.{Around, behind, body_place, names_known, looking_for, split_in, with_name}
use Rattle.cv_rule_array_names.proofs.Stores.{AreSplit, Free, bound_split, free_first, free_second, is_name}
use Rattle.cv_rule_array_names.proofs.Values.{AreVariables, IsOwned, Unread, tuple_in, unread_first, unread_second}
use Rattle.cv_rule_array_names.proofs.Lists.{all_unnamed, both, both_false, candidate_fails, candidate_same, named_with, none_unnamed, unnamed_cell}
use Rattle.cv_rule_array_names.proofs.Arms.{Arm, arm_tree, copy_of}
use Rattle.cv_rule_array_names.proofs.Around.{IsAround, IsTold, among_left, among_right, own_cell, own_tuple, told_owner, told_there, unnamed_among}
use Rattle.cv_rule_array_names.proofs.Found.{Tried, branch_tried}

-- what is known of the cells that a copy looks for, at a tuple
pub record CopyFact (g : Setting) (n : Naming) (o : List ℕ → ℕ) (Γ : Context) (at : Indices) (m : Store) (e : Around) (q : ℕ) (a : Arm) (d : Around) (u : List ℕ) : Type 0 where
  pub looked_for : List (Tree × ℕ)
  pub around : d ≡ (record (behind n q Branch a.indices e) { looked_for = looked_for })
  pub told :
      AllByRecursion
      (λ (c : Tree × ℕ). (is_cell_of n.variable c.0 ≡ true) × IsAmong c.0 (Γ.cells ++ items a.cells) × (o (tuple_in g at (bound_to m (tuple at) a.indices u) c.0) ≡ c.1)) looked_for

abbrev pub Same : Setting → Indices → Store → Store → Naming → (q : ℕ) → Arm → Around → List ℕ → Type 0
Same g at m k n q a e u =
    is_candidate g at m (bound_to m (tuple at) a.indices u) (second (arm_tree a)) ≡ is_candidate g at k (bound_to k (tuple at) (with_name n q a.indices) u) (second (copy_of n q a e))

abbrev pub NoCopy : Setting → Indices → Store → Naming → (q : ℕ) → Arm → Around → List ℕ → Type 0
NoCopy g at k n q a e u = is_candidate g at k (bound_to k (tuple at) (with_name n q a.indices) u) (second (copy_of n q a e)) ≡ false

-- a cell of a list that is not assigned
lacks : (g : Setting) (x : ℕ) (at : Indices) (m k : Store) (A : List (Tree × ℕ)) (d cells : Tree) → first_unnamed A (cells_in x cells) ≡ Some d → is_assigned g at m k d ≡ false → are_assigned g at m k cells ≡ false
lacks g x at m k A d Empty e i = absurd (cc)
lacks g x at m k A d (Node h c more) e i = go (is_cell_of x c) (λ q. lacks g x at m k A d more q i) e
  where
    behind_it : are_assigned g at m k more ≡ false → both (is_assigned g at m k c) (are_assigned g at m k more) ≡ false
    behind_it q = ap (both (is_assigned g at m k c)) q ∙ both_false (is_assigned g at m k c)

    this : c ≡ d → both (is_assigned g at m k c) (are_assigned g at m k more) ≡ false
    this q = ap (λ p. both p (are_assigned g at m k more)) (ap (is_assigned g at m k) q ∙ i)

    one : (b : Bool) → (first_unnamed A (cells_in x more) ≡ Some d → are_assigned g at m k more ≡ false) → cond b (first_unnamed A (cells_in x more)) (Some c) ≡ Some d → both (is_assigned g at m k c) (are_assigned g at m k more) ≡ false
    one true ih q = behind_it (ih q)
    one false ih q = let p : c ≡ d = cc in this p

    go : (b : Bool) → (first_unnamed A (cells_in x more) ≡ Some d → are_assigned g at m k more ≡ false) → first_unnamed A (cond b (c ∷ cells_in x more) (cells_in x more)) ≡ Some d → both (is_assigned g at m k c) (are_assigned g at m k more) ≡ false
    go false ih q = behind_it (ih q)
    go true ih q = one _ ih q

cell_lacks : (g : Setting) (x : ℕ) (at : Indices) (m k : Store) (c : Tree) → is_cell_of x c ≡ true → m x (tuple_in g at k c) ≡ None → is_assigned g at m k c ≡ false
cell_lacks g x at m k Empty e i = refl
cell_lacks g x at m k (Node (Leaf z) a b) e i = ap (λ q. is_some (m q [])) (eqb-true z x e) ∙ ap is_some i
cell_lacks g x at m k (Node (Read z) a b) e i = ap (λ q. is_some (m q (values g at k a))) (eqb-true z x e) ∙ ap is_some i
cell_lacks g x at m k (Node h a b) e i = refl

module _ (g : Setting) (variable : ℕ → Bool) (game : Tree) (fine : Game g variable game) (n : Naming) (o : List ℕ → ℕ) (owns : (w : List ℕ) → is_name n.names (o w) ≡ true) (end : Store)
    (Γ : Context) (at : Indices) (m k : Store) (es : List Happened) (matches : Matches g variable Γ.replications at) (holds : Holds g variable Γ at m es) (kept : IsKept m end) (vars : AreVariables g n.variable n.names at)
    (s : AreSplit n.variable n.names o m k) (e : Around) (around : IsAround g variable n.variable o end e Γ at) where
  abbrev x : ℕ
  x = n.variable

  abbrev ys : List ℕ
  ys = n.names

  -- one branch at a place, at a tuple
  module _ (q : ℕ) (a : Arm) (stands : Stands game q ArmPhrase Γ (arm_tree a)) (named : is_bound a.indices x ≡ true → is_name ys (name_at n q) ≡ true) (free : Free ys (arm_tree a)) (unmixed : are_mixed (cells_in x a.cells) ≡ false)
      (clear : (y : ℕ) → is_bound a.indices y ≡ true → m y (tuple at) ≡ None) (u : List ℕ) where
    abbrev here : Around
    here = behind n q Branch a.indices e

    abbrev tried_store : Store
    tried_store = bound_to m (tuple at) a.indices u

    abbrev other_store : Store
    other_store = bound_to k (tuple at) (with_name n q a.indices) u

    later : IsKept m tried_store
    later = bound_later m (tuple at) a.indices u (stands_asked g variable game fine stands).0.distinct clear

    -- a branch that doesn't bind the variable may have any name in its place
    one_name : List ℕ → ℕ
    one_name w = o w

    abbrev Attempt : Type 0
    Attempt = Tried x ys o a.indices (tuple at) (name_at n q) m tried_store other_store

    attempt : Attempt
    attempt = go (is_name ys (name_at n q)) refl
      where
        go : (b : Bool) → is_name ys (name_at n q) ≡ b → Attempt
        go true i = branch_tried x ys o owns m k s a.indices u (tuple at) (name_at n q) i (free_first ys Branch a.indices _ free) (clear x)
        go false i = record {
          owner = o;
          owns = owns;
          split = bound_split x ys o owns a.indices u m k s (tuple at) (name_at n q) (λ j. absurd (both_ways _ i (named j))) (free_first ys Branch a.indices _ free);
          agrees = λ w h. refl;
          own = λ j. absurd (both_ways _ i (named j));
        }

    abbrev OwnedBy : (List ℕ → ℕ) → Tree × ℕ → Type 0
    OwnedBy r d = IsOwned g x ys r at tried_store d

    outer_owned : (d : Tree × ℕ) → IsTold g variable x o end Γ at d → OwnedBy o d
    outer_owned d t = record { cell = t.cell; owner = told_owner g variable x o end Γ at m es holds kept d t tried_store later }

    outer_tried : (d : Tree × ℕ) → IsTold g variable x o end Γ at d → OwnedBy attempt.owner d
    outer_tried d t = record {
      cell = t.cell;
      owner = attempt.agrees _ (told_there g variable x o end Γ at m es holds kept d t tried_store later) ∙ told_owner g variable x o end Γ at m es holds kept d t tried_store later;
    }

    looked_owned : AllByRecursion (OwnedBy o) e.looked_for
    looked_owned = AllByRecursion_weaker (IsTold g variable x o end Γ at) (OwnedBy o) outer_owned e.looked_for around.looked_for

    looked_tried : AllByRecursion (OwnedBy attempt.owner) e.looked_for
    looked_tried = AllByRecursion_weaker (IsTold g variable x o end Γ at) (OwnedBy attempt.owner) outer_tried e.looked_for around.looked_for

    -- the branch's own variable has the branch's name
    defined_tried : AllByRecursion (OwnedBy attempt.owner) here.defined
    defined_tried = go (is_bound a.indices x) refl
      where
        go : (b : Bool) → is_bound a.indices x ≡ b → AllByRecursion (OwnedBy attempt.owner) (cond b (record e { defined = (cell_of e.replications x, name_at n q) ∷ [] }) e).defined
        go true i = (
          record {
            cell = own_cell x e.replications ∙ eq-eqb x x refl;
            owner = ap (λ rs. attempt.owner (tuple_in g at tried_store (cell_of rs x))) around.replications ∙ ap attempt.owner (own_tuple g variable x Γ.replications at tried_store matches) ∙ attempt.own i;
          },
          tt,
        )
        go false i = AllByRecursion_weaker (IsTold g variable x o end Γ at) (OwnedBy attempt.owner) outer_tried e.defined around.defined

    looked_here : here.looked_for ≡ e.looked_for
    looked_here = go (is_bound a.indices x)
      where
        go : (b : Bool) → (cond b (record e { defined = (cell_of e.replications x, name_at n q) ∷ [] }) e).looked_for ≡ e.looked_for
        go true = refl
        go false = refl

    here_owned : AllByRecursion (OwnedBy o) here.looked_for
    here_owned = subst (AllByRecursion (OwnedBy o)) (sym looked_here) looked_owned

    here_tried : AllByRecursion (OwnedBy attempt.owner) here.looked_for
    here_tried = subst (AllByRecursion (OwnedBy attempt.owner)) (sym looked_here) looked_tried

    known_tried : AllByRecursion (OwnedBy attempt.owner) (names_known here)
    known_tried = AllByRecursion_append (OwnedBy attempt.owner) here.looked_for here.defined here_tried defined_tried

    free_cells : Free ys a.cells
    free_cells = free_first ys Cons a.cells _ (free_second ys Branch a.indices _ free)

    free_condition : Free ys a.condition
    free_condition = free_first ys Cons a.condition _ (free_second ys Cons a.cells _ (free_second ys Branch a.indices _ free))

    abbrev Told : Tree × ℕ → Type 0
    Told c = (is_cell_of x c.0 ≡ true) × IsAmong c.0 (Γ.cells ++ items a.cells) × (o (tuple_in g at tried_store c.0) ≡ c.1)

    outer_facts : AllByRecursion Told here.looked_for
    outer_facts =
        subst (AllByRecursion Told) (sym looked_here)
        (AllByRecursion_weaker (IsTold g variable x o end Γ at) Told (λ d t. (t.cell, among_left d.0 Γ.cells (items a.cells) t.among, (outer_owned d t).owner)) e.looked_for around.looked_for)

    -- a branch whose cells all have names
    pub plain_same : first_unnamed here.looked_for (cells_in x a.cells) ≡ None → Unread x (copy_of n q a here) → Same g at m k n q a here u
    plain_same i unread =
        candidate_same g x ys o attempt.owner owns attempt.owns at vars m k tried_store other_store s attempt.split (names_known here) known_tried here.looked_for here.defined refl here_owned
        Cons Cons a.cells a.condition a.body (split_in n here (body_place q a.indices a.cells a.condition) a.body) (none_unnamed here.looked_for (cells_in x a.cells) i) free_cells free_condition
        (unread_first x Cons _ _ (unread_second x Branch _ _ unread)) (unread_first x Cons _ _ (unread_second x Cons _ _ (unread_second x Branch _ _ unread)))

    pub plain_fact : CopyFact g n o Γ at m e q a here u
    plain_fact = record { looked_for = here.looked_for; around = refl; told = outer_facts }

    -- one that looks for a cell
    module _ (d : Tree) (looks : first_unnamed here.looked_for (cells_in x a.cells) ≡ Some d) where
      abbrev pub where_to : List ℕ
      where_to = tuple_in g at tried_store d

      is_cell : is_cell_of x d ≡ true
      is_cell = unnamed_cell x here.looked_for a.cells d looks

      fails : (y : ℕ) → k y where_to ≡ None → Unread x (copy_of n q a (looking_for here d y)) → NoCopy g at k n q a (looking_for here d y) u
      fails y i unread =
          candidate_fails g x ys o attempt.owner owns attempt.owns at vars m k tried_store other_store s attempt.split (names_known here) known_tried here.looked_for d y Cons Cons a.cells (with_names (names_known (looking_for here d y)) a.condition) (split_in n (looking_for here d y) (body_place q a.indices a.cells a.condition) a.body) looks is_cell free_cells
          (unread_first x Cons _ _ (unread_second x Branch _ _ unread)) i

      pub other_fails : (y : ℕ) → is_name ys y ≡ true → (y == o where_to) ≡ false → Unread x (copy_of n q a (looking_for here d y)) → NoCopy g at k n q a (looking_for here d y) u
      other_fails y h i unread = fails y (s.others y h where_to i) unread

      pub owner_same : Unread x (copy_of n q a (looking_for here d (o where_to))) → Same g at m k n q a (looking_for here d (o where_to)) u
      owner_same unread = go (m x where_to) refl
        where
          go : (v : Option ℕ) → m x where_to ≡ v → Same g at m k n q a (looking_for here d (o where_to)) u
          go None i =
              ap (λ p. both p (is_one (value g at tried_store a.condition))) (lacks g x at m tried_store here.looked_for d a.cells looks (cell_lacks g x at m tried_store d is_cell i))
              ∙ sym (fails (o where_to) (sym (s.owned where_to) ∙ i) unread)
          go (Some v) i =
              candidate_same g x ys o attempt.owner owns attempt.owns at vars m k tried_store other_store s attempt.split ((d, o where_to) ∷ names_known here)
              (record { cell = is_cell; owner = attempt.agrees where_to (ap is_some i) }, known_tried) ((d, o where_to) ∷ here.looked_for) here.defined refl (record { cell = is_cell; owner = refl }, here_owned)
              Cons Cons a.cells a.condition a.body (split_in n (looking_for here d (o where_to)) (body_place q a.indices a.cells a.condition) a.body) (named_with here.looked_for (cells_in x a.cells) d (o where_to) (all_unnamed here.looked_for (cells_in x a.cells) d unmixed looks)) free_cells free_condition
              (unread_first x Cons _ _ (unread_second x Branch _ _ unread)) (unread_first x Cons _ _ (unread_second x Cons _ _ (unread_second x Branch _ _ unread)))

      pub owner_fact : CopyFact g n o Γ at m e q a (looking_for here d (o where_to)) u
      owner_fact = record {
        looked_for = (d, o where_to) ∷ here.looked_for;
        around = refl;
        told = ((is_cell, among_right d Γ.cells (items a.cells) (unnamed_among x here.looked_for a.cells d looks), refl), outer_facts);
      }
