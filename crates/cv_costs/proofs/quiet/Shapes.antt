-- A game in which no value of some variables is read, but as the whole term of a `let`, is quiet.
use Rattle.std.proofs.Common.{◌≡◌, ℕ, ◌==◌, ◌&&◌, Bool, true, false, cond, not, List, [], ◌∷◌, ◌++◌, Option, Some, None, refl, ap, ap₂, subst, ◌∙◌, eqb-true}
use Rattle.std.proofs.lemmas.Bool.{both_ways, and_parts, or_parts, eq-eqb, not_from_false, or_from}
use Rattle.std.specs.List.{list_any}
use Rattle.cv_syntax_trees.specs.lists.Options.{first_of}
use Rattle.cv_syntax_trees.specs.declared.head.Head.{Head}
use Rattle.cv_syntax_trees.specs.declared.head.Head.TheVariants.{Stop, Yield, Par, Repl, In, Out, Event, New, Let, If, Find, Branch, Leaf, Read, Apply, Eq, And, Or, Not, Yes, No, Cons, Binder}
use Rattle.cv_syntax_trees.specs.Tree.{Tree, Empty, Node, first, second, first_place, second_place, head_reads_only, reads_only}
use Rattle.cv_meaning_runs.specs.Replacement as at
use Rattle.cv_meaning_chances.specs.unread.Dropping.{reads_none}
use Rattle.cv_scope_rules.specs.Context.{first_position, second_position}
use Rattle.cv_scope_rules.specs.Made.{is_bound, made_by}
use Rattle.cv_scope_rules.specs.Phrases.{Phrase, Nil, Inputs, Body, Then, Else, Branches, Arm, Guards, Guarded, Pattern, Message, Indices, Binders, Cells, OneCell, Terms, Term, is_phrase}
use Rattle.cv_scope_rules.specs.Sites.{Variable}
use Rattle.cv_scope_rules.specs.declared.position.Position.{Position}
use Rattle.cv_scope_rules.specs.declared.position.Position.TheVariants as position
use Rattle.cv_query_certificates.specs.Secrets.{first_definition_but, first_other_read, is_let_of, reads_value}
use Rattle.cv_costs.specs.quiet.Quiet.{Kind, IsQuiet, over, stopped, yielded, in_parallel, repeated, received, sent, chosen, named, copying, happened, decided, in_list, in_find, in_branch, binds_one, cells_read_none}

-- tests

pub left_false : (b c : Bool) → c ≡ true → (b && c) ≡ false → b ≡ false
left_false true c e f = absurd (both_ways c f e)
left_false false c e f = refl

nothing_first : (c : Bool) (p : ℕ) (o q : Option ℕ) → cond c (Some p) (first_of o q) ≡ None → (c ≡ false) × (o ≡ None) × (q ≡ None)
nothing_first true p o q e = absurd (cc)
nothing_first false p (Some n) q e = absurd (cc)
nothing_first false p None q e = (refl, refl, e)

-- definitions

pub record DefinedParts (is_one : Head → Tree → Bool) (x p : ℕ) (h : Head) (a b : Tree) : Type 0 where
  pub here : (made_by h a (Variable x) && not (is_one h a)) ≡ false
  pub first : first_definition_but is_one x (first_place p h) a ≡ None
  pub second : first_definition_but is_one x (second_place p h a) b ≡ None

pub defined_parts : (is_one : Head → Tree → Bool) (x p : ℕ) (h : Head) (a b : Tree) → first_definition_but is_one x p (Node h a b) ≡ None → DefinedParts is_one x p h a b
unfolding first_definition_but
defined_parts is_one x p h a b e =
    let k = nothing_first (made_by h a (Variable x) && not (is_one h a)) p (first_definition_but is_one x (first_place p h) a) (first_definition_but is_one x (second_place p h a) b) e in
    record { here = k.0; first = k.1; second = k.2 }

-- the indices above the continuation of a node
abbrev pub indices_below : Head → List ℕ → List ℕ
indices_below (Repl i n) is = is ++ i ∷ []
indices_below h is = is

-- a service may come to the second child of the node
abbrev pub head_goes_on : Head → Bool
head_goes_on Par = true
head_goes_on (Repl i n) = true
head_goes_on (In c) = true
head_goes_on (Out c) = true
head_goes_on (New y T) = true
head_goes_on (Let y T) = true
head_goes_on (Event e) = true
head_goes_on If = true
head_goes_on (Find l) = true
head_goes_on Branch = true
head_goes_on Cons = true
head_goes_on h = false

-- terms

module _ (x : ℕ) (ys : List ℕ) where
  abbrev pub one_of : ℕ → Bool
  one_of z = list_any (λ y. z == y) ys

  abbrev Unread : Bool → Position → ℕ → Tree → Type 0
  Unread free w p b = first_other_read x ys free w p b ≡ None

  -- a node whose children are such phrases
  record Opened (τ ρ : Phrase) (free : Bool) (w : Position) (p : ℕ) (h : Head) (a b : Tree) : Type 0 where
    first_phrase : is_phrase τ a ≡ true
    second_phrase : is_phrase ρ b ≡ true
    here : (not free && list_any (λ y. reads_value y w h) ys) ≡ false
    first : Unread (is_let_of x h) (first_position w h) (first_place p h) a
    second : Unread false (second_position w h) (second_place p h a) b

  opened : (τ ρ : Phrase) (free : Bool) (w : Position) (p : ℕ) (h : Head) (a b : Tree) → (is_phrase τ a && is_phrase ρ b) ≡ true → Unread free w p (Node h a b) → Opened τ ρ free w p h a b
  unfolding first_other_read
  opened τ ρ free w p h a b e u =
      let f = and_parts (is_phrase τ a) (is_phrase ρ b) e in
      let k = nothing_first (not free && list_any (λ y. reads_value y w h) ys) p (first_other_read x ys (is_let_of x h) (first_position w h) (first_place p h) a) (first_other_read x ys false (second_position w h) (second_place p h a) b) u in
      record { first_phrase = f.0; second_phrase = f.1; here = k.0; first = k.1; second = k.2 }

  abbrev place_of : Phrase → Position
  place_of Then = position.Bodies
  place_of Else = position.ElseBody
  place_of Branches = position.Branches
  place_of Guards = position.Guards
  place_of Guarded = position.Guarded
  place_of Cells = position.Cells
  place_of OneCell = position.OneCell
  place_of σ = position.Anywhere

  abbrev pub ReadsNone : Tree → Type 0
  ReadsNone b = reads_none one_of b ≡ true

  abbrev Flat : Phrase → Tree → Type 0
  Flat Message b = ReadsNone (second b)
  Flat Cells b = cells_read_none one_of b ≡ true
  Flat OneCell b = ReadsNone (first b)
  Flat Nil b = ReadsNone b
  Flat Terms b = ReadsNone b
  Flat Term b = ReadsNone b
  Flat σ b = Unit {0}

  node_reads : (h : Head) (a b : Tree) → head_reads_only (λ y. not (one_of y)) h ≡ true → ReadsNone a → ReadsNone b → ReadsNone (Node h a b)
  unfolding reads_only
  node_reads h a b e f k = ap₂ ◌&&◌ e (ap₂ ◌&&◌ f k)

  flat : (σ : Phrase) (p : ℕ) (b : Tree) → is_phrase σ b ≡ true → Unread false (place_of σ) p b → Flat σ b
  unfolding is_phrase reads_only cells_read_none
  flat Nil p Empty e u = refl
  flat Message p (Node Cons a b) e u =
      let o = opened Indices Terms false position.Anywhere p Cons a b e u in
      flat Terms _ b o.second_phrase o.second
  flat Cells p Empty e u = refl
  flat Cells p (Node Cons a b) e u =
      let o = opened OneCell Cells false position.Cells p Cons a b e u in
      ap₂ ◌&&◌ (flat OneCell _ a o.first_phrase o.first) (flat Cells _ b o.second_phrase o.second)
  flat OneCell p (Node (Leaf y) a b) e u =
      let o = opened Nil Nil false position.OneCell p (Leaf y) a b e u in
      flat Nil _ a o.first_phrase o.first
  flat OneCell p (Node (Read y) a b) e u =
      let o = opened Terms Nil false position.OneCell p (Read y) a b e u in
      flat Terms _ a o.first_phrase o.first
  flat Terms p Empty e u = refl
  flat Terms p (Node Cons a b) e u =
      let o = opened Term Terms false position.Anywhere p Cons a b e u in
      node_reads Cons a b refl (flat Term _ a o.first_phrase o.first) (flat Terms _ b o.second_phrase o.second)
  flat Term p (Node (Leaf y) a b) e u =
      let o = opened Nil Nil false position.Anywhere p (Leaf y) a b e u in
      node_reads (Leaf y) a b (not_from_false (one_of y) o.here) (flat Nil _ a o.first_phrase o.first) (flat Nil _ b o.second_phrase o.second)
  flat Term p (Node (Read y) a b) e u =
      let o = opened Terms Nil false position.Anywhere p (Read y) a b e u in
      node_reads (Read y) a b (not_from_false (one_of y) o.here) (flat Terms _ a o.first_phrase o.first) (flat Nil _ b o.second_phrase o.second)
  flat Term p (Node (Apply f) a b) e u =
      let o = opened Terms Nil false position.Anywhere p (Apply f) a b e u in
      node_reads (Apply f) a b refl (flat Terms _ a o.first_phrase o.first) (flat Nil _ b o.second_phrase o.second)
  flat Term p (Node Eq a b) e u =
      let o = opened Term Term false position.Anywhere p Eq a b e u in
      node_reads Eq a b refl (flat Term _ a o.first_phrase o.first) (flat Term _ b o.second_phrase o.second)
  flat Term p (Node And a b) e u =
      let o = opened Term Term false position.Anywhere p And a b e u in
      node_reads And a b refl (flat Term _ a o.first_phrase o.first) (flat Term _ b o.second_phrase o.second)
  flat Term p (Node Or a b) e u =
      let o = opened Term Term false position.Anywhere p Or a b e u in
      node_reads Or a b refl (flat Term _ a o.first_phrase o.first) (flat Term _ b o.second_phrase o.second)
  flat Term p (Node Not a b) e u =
      let o = opened Term Nil false position.Anywhere p Not a b e u in
      node_reads Not a b refl (flat Term _ a o.first_phrase o.first) (flat Nil _ b o.second_phrase o.second)
  flat Term p (Node Yes a b) e u =
      let o = opened Nil Nil false position.Anywhere p Yes a b e u in
      node_reads Yes a b refl (flat Nil _ a o.first_phrase o.first) (flat Nil _ b o.second_phrase o.second)
  flat Term p (Node No a b) e u =
      let o = opened Nil Nil false position.Anywhere p No a b e u in
      node_reads No a b refl (flat Nil _ a o.first_phrase o.first) (flat Nil _ b o.second_phrase o.second)
  flat Inputs p b e u = tt
  flat Body p b e u = tt
  flat Then p b e u = tt
  flat Else p b e u = tt
  flat Branches p b e u = tt
  flat Arm p b e u = tt
  flat Guards p b e u = tt
  flat Guarded p b e u = tt
  flat Pattern p b e u = tt
  flat Indices p b e u = tt
  flat Binders p b e u = tt
  flat σ p b e u = absurd (both_ways false refl e)

  -- a term whose own name alone may be one of them
  pub free_term : (p : ℕ) (b : Tree) → is_phrase Term b ≡ true → first_other_read x ys true position.Anywhere p b ≡ None → ReadsNone (first b)
  unfolding is_phrase
  free_term p (Node (Leaf y) a b) e u =
      let o = opened Nil Nil true position.Anywhere p (Leaf y) a b e u in
      flat Nil _ a o.first_phrase o.first
  free_term p (Node (Read y) a b) e u =
      let o = opened Terms Nil true position.Anywhere p (Read y) a b e u in
      flat Terms _ a o.first_phrase o.first
  free_term p (Node (Apply f) a b) e u =
      let o = opened Terms Nil true position.Anywhere p (Apply f) a b e u in
      flat Terms _ a o.first_phrase o.first
  free_term p (Node Eq a b) e u =
      let o = opened Term Term true position.Anywhere p Eq a b e u in
      flat Term _ a o.first_phrase o.first
  free_term p (Node And a b) e u =
      let o = opened Term Term true position.Anywhere p And a b e u in
      flat Term _ a o.first_phrase o.first
  free_term p (Node Or a b) e u =
      let o = opened Term Term true position.Anywhere p Or a b e u in
      flat Term _ a o.first_phrase o.first
  free_term p (Node Not a b) e u =
      let o = opened Term Nil true position.Anywhere p Not a b e u in
      flat Term _ a o.first_phrase o.first
  free_term p (Node Yes a b) e u =
      let o = opened Nil Nil true position.Anywhere p Yes a b e u in
      flat Nil _ a o.first_phrase o.first
  free_term p (Node No a b) e u =
      let o = opened Nil Nil true position.Anywhere p No a b e u in
      flat Nil _ a o.first_phrase o.first
  free_term p b e u = absurd (both_ways false refl e)

  term_first : (b : Tree) → ReadsNone b → ReadsNone (first b)
  unfolding reads_only
  term_first Empty e = refl
  term_first (Node h a b) e = (and_parts (reads_none one_of a) (reads_none one_of b) (and_parts (head_reads_only (λ y. not (one_of y)) h) (reads_none one_of a && reads_none one_of b) e).1).0

  binders_free : (bs : Tree) → ((y : ℕ) → one_of y ≡ true → is_bound bs y ≡ false) → binds_one one_of bs ≡ false
  unfolding is_bound binds_one
  binders_free (Node (Binder y T) a b) e =
      or_from (one_of y) (binds_one one_of b) (go (one_of y) refl) (binders_free b (λ z f. (or_parts (z == y) (is_bound b z) (e z f)).1))
    where
      go : (c : Bool) → one_of y ≡ c → c ≡ false
      go true f = absurd (both_ways (y == y) (or_parts (y == y) (is_bound b y) (e y f)).0 (eq-eqb y y refl))
      go false f = refl
  binders_free b e = refl

  -- processes: what is known of the definitions in a tree at a place and of one at a node, and what else is known of a process below
  -- replications with some indices
  module _ (Drawn : ℕ → Type 0) (Copied : List ℕ → ℕ → Tree → Type 0) (Defined : ℕ → Tree → Type 0) (Here : Head → Tree → Type 0) (More : List ℕ → Tree → Type 0) where
    abbrev pub kind : Kind
    kind = record { unread = one_of; drawn = Drawn; copied = Copied }

    pub record IsShaped : Type 0 where
      pub here : (p : ℕ) (h : Head) (a b : Tree) → Defined p (Node h a b) → Here h a
      pub defined_first : (p : ℕ) (h : Head) (a b : Tree) → Defined p (Node h a b) → Defined (first_place p h) a
      pub defined_second : (p : ℕ) (h : Head) (a b : Tree) → Defined p (Node h a b) → Defined (second_place p h a) b
      pub more_first : (h : Head) (is : List ℕ) (a b : Tree) → at.in_first h true true ≡ true → More is (Node h a b) → More is a
      pub more_second : (h : Head) (is : List ℕ) (a b : Tree) → head_goes_on h ≡ true → More is (Node h a b) → More (indices_below h is) b
      pub received : (c : ℕ) (a : Tree) (y : ℕ) → Here (In c) a → one_of y ≡ true → is_bound (second a) y ≡ false
      pub branched : (a : Tree) (y : ℕ) → Here Branch a → one_of y ≡ true → is_bound a y ≡ false
      pub draws : (z T : ℕ) (a : Tree) → Here (New z T) a → Drawn z
      pub itself : one_of x ≡ true
      pub copies : (is : List ℕ) (z T : ℕ) (a b : Tree) → Here (Let z T) a → More is (Node (Let z T) a b) → one_of z ≡ true → ReadsNone (first a) → Copied is z a

    module _ (s : IsShaped) where
      abbrev Known : List ℕ → Phrase → Tree → Type 0
      Known is Inputs b = IsQuiet kind is at.Process b
      Known is Body b = IsQuiet kind is at.Process b
      Known is Then b = IsQuiet kind is at.Process b
      Known is Else b = IsQuiet kind is at.Process b
      Known is Branches b = IsQuiet kind is at.Branches b
      Known is Arm b = (more : Tree) → IsQuiet kind is at.Branches more → IsQuiet kind is at.Branches (Node Cons b more)
      Known is Guards b = (bs more : Tree) → binds_one one_of bs ≡ false → IsQuiet kind is at.Branches more → IsQuiet kind is at.Branches (Node Cons (Node Branch bs b) more)
      Known is Guarded b = (bs d more : Tree) → binds_one one_of bs ≡ false → cells_read_none one_of d ≡ true → IsQuiet kind is at.Branches more → IsQuiet kind is at.Branches (Node Cons (Node Branch bs (Node Cons d b)) more)
      Known is σ b = Unit {0}

      -- a `let` of one of them, and of another variable
      assigned : (is : List ℕ) (z T p q : ℕ) (a b : Tree) → Opened Term Body false position.Anywhere p (Let z T) a b → Defined q (Node (Let z T) a b) → More is (Node (Let z T) a b) → IsQuiet kind is at.Process b → IsQuiet kind is at.Process (Node (Let z T) a b)
      unfolding is_phrase
      assigned is z T p q a b o c m y = go (one_of z) refl
        where
          any_term : (free : Bool) → Unread free position.Anywhere (first_place p (Let z T)) a → ReadsNone (first a)
          any_term true u = free_term _ a o.first_phrase u
          any_term false u = term_first a (flat Term _ a o.first_phrase u)

          other : one_of z ≡ false → (z == x) ≡ false
          other e = go (z == x) refl
            where
              go : (d : Bool) → (z == x) ≡ d → d ≡ false
              go true k = absurd (both_ways (one_of z) e (ap one_of (eqb-true z x k) ∙ s.itself))
              go false k = refl

          go : (d : Bool) → one_of z ≡ d → IsQuiet kind is at.Process (Node (Let z T) a b)
          go true e = copying (s.copies is z T a b (s.here q (Let z T) a b c) m e (any_term (z == x) o.first)) y
          go false e = named e (flat Term _ a o.first_phrase (subst (λ d. Unread d position.Anywhere (first_place p (Let z T)) a) (other e) o.first)) y

      quiet : (is : List ℕ) (σ : Phrase) (p q : ℕ) (b : Tree) → is_phrase σ b ≡ true → Unread false (place_of σ) p b → Defined q b → More is b → Known is σ b
      unfolding is_phrase
      quiet is Inputs p q (Node Stop a b) e u c m = stopped
      quiet is Inputs p q (Node Par a b) e u c m =
          let o = opened Inputs Inputs false position.Anywhere p Par a b e u in
          in_parallel (quiet is Inputs _ _ a o.first_phrase o.first (s.defined_first q Par a b c) (s.more_first Par is a b refl m)) (quiet is Inputs _ _ b o.second_phrase o.second (s.defined_second q Par a b c) (s.more_second Par is a b refl m))
      quiet is Inputs p q (Node (Repl i n) a b) e u c m =
          let o = opened Nil Inputs false position.Anywhere p (Repl i n) a b e u in
          repeated (quiet (is ++ i ∷ []) Inputs _ _ b o.second_phrase o.second (s.defined_second q (Repl i n) a b c) (s.more_second (Repl i n) is a b refl m))
      quiet is Inputs p q (Node (In k) a b) e u c m =
          let o = opened Pattern Body false position.Anywhere p (In k) a b e u in
          received (binders_free (second a) (λ y. s.received k a y (s.here q (In k) a b c))) (quiet is Body _ _ b o.second_phrase o.second (s.defined_second q (In k) a b c) (s.more_second (In k) is a b refl m))
      quiet is Body p q (Node Yield a b) e u c m = yielded
      quiet is Body p q (Node (Out k) a b) e u c m =
          let o = opened Message Inputs false position.Anywhere p (Out k) a b e u in
          sent (flat Message _ a o.first_phrase o.first) (quiet is Inputs _ _ b o.second_phrase o.second (s.defined_second q (Out k) a b c) (s.more_second (Out k) is a b refl m))
      quiet is Body p q (Node (New y T) a b) e u c m =
          let o = opened Nil Body false position.Anywhere p (New y T) a b e u in
          chosen (s.draws y T a (s.here q (New y T) a b c)) (quiet is Body _ _ b o.second_phrase o.second (s.defined_second q (New y T) a b c) (s.more_second (New y T) is a b refl m))
      quiet is Body p q (Node (Let y T) a b) e u c m =
          let o = opened Term Body false position.Anywhere p (Let y T) a b e u in
          assigned is y T p q a b o c m (quiet is Body _ _ b o.second_phrase o.second (s.defined_second q (Let y T) a b c) (s.more_second (Let y T) is a b refl m))
      quiet is Body p q (Node (Event k) a b) e u c m =
          let o = opened Terms Body false position.Anywhere p (Event k) a b e u in
          happened (flat Terms _ a o.first_phrase o.first) (quiet is Body _ _ b o.second_phrase o.second (s.defined_second q (Event k) a b c) (s.more_second (Event k) is a b refl m))
      quiet is Body p q (Node If a b) e u c m =
          let o = opened Term Then false position.Anywhere p If a b e u in
          decided (flat Term _ a o.first_phrase o.first) (quiet is Then _ _ b o.second_phrase o.second (s.defined_second q If a b c) (s.more_second If is a b refl m))
      quiet is Body p q (Node (Find l) a b) e u c m =
          let o = opened Branches Body false position.Anywhere p (Find l) a b e u in
          in_find (quiet is Branches _ _ a o.first_phrase o.first (s.defined_first q (Find l) a b c) (s.more_first (Find l) is a b refl m)) (quiet is Body _ _ b o.second_phrase o.second (s.defined_second q (Find l) a b c) (s.more_second (Find l) is a b refl m))
      quiet is Then p q (Node Cons a b) e u c m =
          let o = opened Body Else false position.Bodies p Cons a b e u in
          in_list (quiet is Body _ _ a o.first_phrase o.first (s.defined_first q Cons a b c) (s.more_first Cons is a b refl m)) (quiet is Else _ _ b o.second_phrase o.second (s.defined_second q Cons a b c) (s.more_second Cons is a b refl m))
      quiet is Else p q (Node Cons a Empty) e u c m =
          let o = opened Body Nil false position.ElseBody p Cons a Empty e u in
          in_list (quiet is Body _ _ a o.first_phrase o.first (s.defined_first q Cons a Empty c) (s.more_first Cons is a Empty refl m)) over
      quiet is Else p q (Node Cons a (Node h d b)) e u c m = absurd (both_ways false refl (and_parts (is_phrase Body a) false e).1)
      quiet is Branches p q Empty e u c m = over
      quiet is Branches p q (Node Cons a b) e u c m =
          let o = opened Arm Branches false position.Branches p Cons a b e u in
          quiet is Arm _ _ a o.first_phrase o.first (s.defined_first q Cons a b c) (s.more_first Cons is a b refl m) b (quiet is Branches _ _ b o.second_phrase o.second (s.defined_second q Cons a b c) (s.more_second Cons is a b refl m))
      quiet is Arm p q (Node Branch a b) e u c m =
          let o = opened Binders Guards false position.Anywhere p Branch a b e u in
          λ more z. quiet is Guards _ _ b o.second_phrase o.second (s.defined_second q Branch a b c) (s.more_second Branch is a b refl m) a more (binders_free a (λ y. s.branched a y (s.here q Branch a b c))) z
      quiet is Guards p q (Node Cons a b) e u c m =
          let o = opened Cells Guarded false position.Guards p Cons a b e u in
          λ bs more f z. quiet is Guarded _ _ b o.second_phrase o.second (s.defined_second q Cons a b c) (s.more_second Cons is a b refl m) bs a more f (flat Cells _ a o.first_phrase o.first) z
      quiet is Guarded p q (Node Cons a b) e u c m =
          let o = opened Term Body false position.Guarded p Cons a b e u in
          λ bs d more f k z. in_branch f k (flat Term _ a o.first_phrase o.first) (quiet is Body _ _ b o.second_phrase o.second (s.defined_second q Cons a b c) (s.more_second Cons is a b refl m)) z
      quiet is Pattern p q b e u c m = tt
      quiet is Message p q b e u c m = tt
      quiet is Indices p q b e u c m = tt
      quiet is Binders p q b e u c m = tt
      quiet is Cells p q b e u c m = tt
      quiet is OneCell p q b e u c m = tt
      quiet is Nil p q b e u c m = tt
      quiet is Terms p q b e u c m = tt
      quiet is Term p q b e u c m = tt
      quiet is σ p q b e u c m = absurd (both_ways false refl e)

      pub quiet_game : (game : Tree) → is_phrase Inputs game ≡ true → first_other_read x ys false position.Anywhere 0 game ≡ None → Defined 0 game → More [] game → IsQuiet kind [] at.Process game
      quiet_game game = quiet [] Inputs 0 0 game
