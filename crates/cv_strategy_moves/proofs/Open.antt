-- A key that has an instance is read outside `defined` lists and conditions: it stands in the instance's term.
use Rattle.std.proofs.Common.{◌≡◌, ℕ, suc, Bool, true, false, cond, ◌&&◌, ◌||◌, not, ◌==◌, nat_lt, List, [], ◌∷◌, ◌++◌, length, if◌then◌else◌, Option, Some, None, refl, sym, ap, ap₂, ◌∙◌}
use Rattle.std.proofs.lemmas.Bool.{and_parts, both_ways}
use Rattle.cv_syntax_trees.specs.declared.head.Head.{Head}
use Rattle.cv_syntax_trees.specs.declared.head.Head.TheVariants.{Stop, Yield, Par, Repl, In, Out, Event, New, Let, If, Find, Branch, Leaf, Read, Apply, Eq, And, Or, Not, Yes, No, Cons, Binder, Name}
use Rattle.cv_syntax_trees.specs.Tree.{Tree, Empty, Node, first, first_place, second, second_place}
use Rattle.cv_syntax_trees.specs.sites.Sites.{first_of}
use Rattle.cv_meaning.specs.contexts.Groups.{Function}
use Rattle.cv_scope_rules.specs.Context.{first_position, replications_below, second_position}
use Rattle.cv_scope_rules.specs.Phrases.{Arm, Binders, Body, Branches, Cells, Else, Guarded, Guards, Indices, Inputs, Message, Nil, OneCell, Pattern, Phrase, Term, Terms, Then, both_are, is_phrase, parts}
use Rattle.cv_scope_rules.specs.declared.position.Position.{Position}
use Rattle.cv_scope_rules.specs.declared.position.Position.TheVariants as position
use Rattle.cv_scope_runs.proofs.Rows.{placed, position_of}
use Rattle.cv_scene.specs.Apt.{has_value}
use Rattle.cv_scene.specs.Instances.{Call, Matching, call_at, call_by, first_call, guess, is_instance, is_read_of, standing_for, standing_here}
use Rattle.cv_scene.specs.Scenes.{head_reads, or_empty}
use Rattle.cv_scene.specs.Sights.{variable_of}
use Rattle.cv_scene.specs.Sites.{Site, is_guard, sites_in, sites_of}
use Rattle.cv_strategy_moves.specs.Uses.{is_read_openly}
use Rattle.cv_strategy_moves.proofs.Chosen.{same_parts}
use Rattle.cv_strategy_moves.proofs.Tests.{in_first, in_second}

-- some node reads the variable
mentions : ℕ → Tree → Bool
mentions x Empty = false
mentions x (Node h a b) = head_reads x h || (mentions x a || mentions x b)

mentions_first : (x : ℕ) (t : Tree) → mentions x (first t) ≡ true → mentions x t ≡ true
unfolding mentions
mentions_first x Empty e = absurd (both_ways false refl e)
mentions_first x (Node h a b) e = in_first (head_reads x h) (mentions x a) (mentions x b) e

mentions_second : (x : ℕ) (t : Tree) → mentions x (second t) ≡ true → mentions x t ≡ true
unfolding mentions
mentions_second x Empty e = absurd (both_ways false refl e)
mentions_second x (Node h a b) e = in_second (head_reads x h) (mentions x a) (mentions x b) e

reads_itself : (x : ℕ) (t : Tree) → is_read_of x (variable_of t) ≡ true → mentions x t ≡ true
unfolding mentions
reads_itself x (Node (Leaf y) a b) e = ap (λ z. z || (mentions x a || mentions x b)) e
reads_itself x (Node (Read y) a b) e = ap (λ z. z || (mentions x a || mentions x b)) e
reads_itself x t e = absurd (both_ways _ refl e)

-- what stands for a name stands in the term

abbrev reads_variable : ℕ → Option Tree → Bool
reads_variable x o = is_read_of x (variable_of (or_empty o))

of_first : (x : ℕ) (o q : Option Tree) → reads_variable x (first_of o q) ≡ true → (A : Type 0) → (reads_variable x o ≡ true → A) → (reads_variable x q ≡ true → A) → A
of_first x None q e A f g = g e
of_first x (Some t) q e A f g = f e

stands_here : (x z : ℕ) (h : Head) (m : Tree) → reads_variable x (standing_here z h m) ≡ true → mentions x m ≡ true
stands_here x z (Leaf y) m e = go (y == z) e
  where
    go : (b : Bool) → reads_variable x (cond b (Some m) None) ≡ true → mentions x m ≡ true
    go true e = reads_itself x m e
    go false e = absurd (both_ways false refl e)
stands_here x z h m e = absurd (both_ways _ refl e)

stands_in : (x z : ℕ) (body m : Tree) → reads_variable x (standing_for z body m) ≡ true → mentions x m ≡ true
unfolding standing_for
stands_in x z Empty m e = absurd (both_ways false refl e)
stands_in x z (Node h a b) m e =
    of_first x (standing_here z h m) (first_of (standing_for z a (first m)) (standing_for z b (second m))) e _ (stands_here x z h m)
    (λ f. of_first x (standing_for z a (first m)) (standing_for z b (second m)) f _ (λ g. mentions_first x m (stands_in x z a (first m) g)) (λ g. mentions_second x m (stands_in x z b (second m) g)))

no_call : (c : Call) → ◌≡◌ {A = Option Call} None (Some c) → ⊥
no_call c e = cc

abbrev WhereCalled : Matching → Tree → Option Call → Type 0
WhereCalled M t o = (c : Call) → o ≡ Some c → mentions M.key t ≡ true

called_first : (M : Matching) (t : Tree) (k : ℕ) (f : Function) (rest : Option Call) → WhereCalled M t rest
    → (b : Bool) → is_instance M f (guess M.group f t) t ≡ b → WhereCalled M t (first_of (call_by k f (cond b (Some (guess M.group f t)) None)) rest)
called_first M t k f rest ih false i c e = ih c e
called_first M t k f rest ih true i c e = stands_in M.key M.group.key.0 f.body t (and_parts (is_read_of M.key (variable_of (guess M.group f t).key)) _ (and_parts _ _ i).1).0

called : (M : Matching) (t : Tree) (k : ℕ) (fs : List Function) → WhereCalled M t (first_call M k fs t)
called M t k [] c e = absurd (no_call c e)
called M t k (f ∷ fs) c e = called_first M t k f (first_call M (suc k) fs t) (called M t (suc k) fs) (is_instance M f (guess M.group f t) t) refl c e

-- in a term all reads are open

abbrev is_list : Phrase → Bool
is_list Nil = true
is_list Terms = true
is_list Term = true
is_list σ = false

record OpenRow (h : Head) (q : Phrase × Phrase) : Type 0 where
  at_first : first_position position.Anywhere h ≡ position.Anywhere
  at_second : second_position position.Anywhere h ≡ position.Anywhere
  left : is_list q.0 ≡ true
  right : is_list q.1 ≡ true

abbrev IsOpen : Phrase → Head → Option (Phrase × Phrase) → Type 0
IsOpen σ h None = Unit {0}
IsOpen σ h (Some q) = is_list σ ≡ true → OpenRow h q

listed : {A : Type 0} → false ≡ true → A
listed e = absurd (both_ways false refl e)

open_row : (σ : Phrase) (h : Head) → IsOpen σ h (parts σ h)
open_row Inputs Stop = listed
open_row Inputs Par = listed
open_row Inputs (Repl i n) = listed
open_row Inputs (In c) = listed
open_row Body Yield = listed
open_row Body (Out c) = listed
open_row Body (New x T) = listed
open_row Body (Let x T) = listed
open_row Body (Event e) = listed
open_row Body If = listed
open_row Body (Find l) = listed
open_row Then Cons = listed
open_row Else Cons = listed
open_row Branches Cons = listed
open_row Arm Branch = listed
open_row Guards Cons = listed
open_row Guarded Cons = listed
open_row Pattern Cons = listed
open_row Message Cons = listed
open_row Indices (Name i) = listed
open_row Binders (Binder x T) = listed
open_row Cells Cons = listed
open_row OneCell (Leaf x) = listed
open_row OneCell (Read x) = listed
open_row Terms Cons = λ l. record { at_first = refl; at_second = refl; left = refl; right = refl }
open_row Term (Leaf x) = λ l. record { at_first = refl; at_second = refl; left = refl; right = refl }
open_row Term (Read x) = λ l. record { at_first = refl; at_second = refl; left = refl; right = refl }
open_row Term (Apply f) = λ l. record { at_first = refl; at_second = refl; left = refl; right = refl }
open_row Term Eq = λ l. record { at_first = refl; at_second = refl; left = refl; right = refl }
open_row Term And = λ l. record { at_first = refl; at_second = refl; left = refl; right = refl }
open_row Term Or = λ l. record { at_first = refl; at_second = refl; left = refl; right = refl }
open_row Term Not = λ l. record { at_first = refl; at_second = refl; left = refl; right = refl }
open_row Term Yes = λ l. record { at_first = refl; at_second = refl; left = refl; right = refl }
open_row Term No = λ l. record { at_first = refl; at_second = refl; left = refl; right = refl }
open_row σ h = tt

all_open : (x : ℕ) (t : Tree) (σ : Phrase) → is_list σ ≡ true → is_phrase σ t ≡ true → is_read_openly x position.Anywhere t ≡ mentions x t
unfolding is_phrase is_read_openly mentions
all_open x Empty σ l e = refl
all_open x (Node h a b) σ l e = go (parts σ h) (open_row σ h) e (all_open x a) (all_open x b)
  where
    go : (o : Option (Phrase × Phrase)) → IsOpen σ h o → both_are o (λ τ. is_phrase τ a) (λ ρ. is_phrase ρ b) ≡ true
        → ((τ : Phrase) → is_list τ ≡ true → is_phrase τ a ≡ true → is_read_openly x position.Anywhere a ≡ mentions x a)
        → ((ρ : Phrase) → is_list ρ ≡ true → is_phrase ρ b ≡ true → is_read_openly x position.Anywhere b ≡ mentions x b)
        → (head_reads x h || (is_read_openly x (first_position position.Anywhere h) a || is_read_openly x (second_position position.Anywhere h) b)) ≡ (head_reads x h || (mentions x a || mentions x b))
    go None s e f g = listed e
    go (Some q) s e f g =
        let p = and_parts (is_phrase q.0 a) (is_phrase q.1 b) e in
        let r = s l in
        ap (λ z. head_reads x h || z)
        (ap₂ ◌||◌ (ap (λ w. is_read_openly x w a) r.at_first ∙ f q.0 r.left p.0) (ap (λ w. is_read_openly x w b) r.at_second ∙ g q.1 r.right p.1))

-- so they are in a cell
cell_open : (x : ℕ) (h : Head) (a b : Tree) → is_phrase OneCell (Node h a b) ≡ true → is_read_openly x position.OneCell (Node h a b) ≡ mentions x (Node h a b)
unfolding is_phrase is_read_openly mentions
cell_open x (Leaf y) a b e = all_open x (Node (Leaf y) a b) Term refl e
cell_open x (Read y) a b e = all_open x (Node (Read y) a b) Term refl e
cell_open x h a b e = absurd (both_ways _ refl e)

-- and wherever a value stands
value_open : (x : ℕ) (σ : Phrase) (h : Head) (a b : Tree) → has_value (Node h a b) ≡ true → is_phrase σ (Node h a b) ≡ true → is_read_openly x (position_of σ) (Node h a b) ≡ mentions x (Node h a b)
unfolding is_phrase
value_open x Term h a b v e = all_open x (Node h a b) Term refl e
value_open x OneCell h a b v e = cell_open x h a b e
value_open x σ (Leaf y) a b v e = absurd (both_ways _ refl e)
value_open x σ (Read y) a b v e = absurd (both_ways _ refl e)
value_open x σ (Apply f) a b v e = absurd (both_ways _ refl e)
value_open x σ Eq a b v e = absurd (both_ways _ refl e)
value_open x σ And a b v e = absurd (both_ways _ refl e)
value_open x σ Or a b v e = absurd (both_ways _ refl e)
value_open x σ Not a b v e = absurd (both_ways _ refl e)
value_open x σ Yes a b v e = absurd (both_ways _ refl e)
value_open x σ No a b v e = absurd (both_ways _ refl e)
value_open x σ h a b v e = absurd (both_ways _ refl v)

none_left : (b c d : Bool) → (b || (c || d)) ≡ false → (c ≡ false) × (d ≡ false)
none_left true c d e = absurd (both_ways true e refl)
none_left false true d e = absurd (both_ways true e refl)
none_left false false d e = (refl, e)

module _ (M : Matching) (terms : (t : Tree) → has_value t ≡ false → call_at M t ≡ None) where
  call_value : (t : Tree) (c : Call) → call_at M t ≡ Some c → has_value t ≡ true
  call_value t c e = go (has_value t) refl
    where
      go : (b : Bool) → has_value t ≡ b → b ≡ true
      go true v = refl
      go false v = absurd (no_call c (sym (terms t v) ∙ e))

  -- where no read is open, no instance stands

  abbrev IsBare : Tree → Type 0
  IsBare t = (σ : Phrase) (rs : List (ℕ × ℕ)) (p : ℕ) → is_phrase σ t ≡ true → is_read_openly M.key (position_of σ) t ≡ false → sites_in M (position_of σ) rs p t ≡ []

  abbrev sites_below : Position → List (ℕ × ℕ) → ℕ → Head → Tree → Tree → List Site
  sites_below w rs p h a b = (if is_guard w then [] else sites_in M (first_position w h) rs (first_place p h) a) ++ sites_in M (second_position w h) (replications_below h rs) (second_place p h a) b

  in_first_child : (guard : Bool) (w : Position) (rs : List (ℕ × ℕ)) (p : ℕ) (a : Tree) → (not guard && is_read_openly M.key w a) ≡ false
      → (is_read_openly M.key w a ≡ false → sites_in M w rs p a ≡ []) → (if guard then [] else sites_in M w rs p a) ≡ []
  in_first_child true w rs p a z f = refl
  in_first_child false w rs p a z f = f z

  by_parts : (σ : Phrase) (rs : List (ℕ × ℕ)) (p : ℕ) (h : Head) (a b : Tree) → IsBare a → IsBare b → (o : Option (Phrase × Phrase)) → parts σ h ≡ o → both_are o (λ τ. is_phrase τ a) (λ ρ. is_phrase ρ b) ≡ true
      → (head_reads M.key h || ((not (is_guard (position_of σ)) && is_read_openly M.key (first_position (position_of σ) h) a) || is_read_openly M.key (second_position (position_of σ) h) b)) ≡ false
      → sites_below (position_of σ) rs p h a b ≡ []
  by_parts σ rs p h a b f g None s e n = listed e
  by_parts σ rs p h a b f g (Some q) s e n =
      let i = and_parts (is_phrase q.0 a) (is_phrase q.1 b) e in
      let w = placed σ q.0 q.1 h (same_parts σ h q s) in
      let m = none_left (head_reads M.key h) (not (is_guard (position_of σ)) && is_read_openly M.key (first_position (position_of σ) h) a) (is_read_openly M.key (second_position (position_of σ) h) b) n in
      ap₂ ◌++◌
      (in_first_child (is_guard (position_of σ)) (first_position (position_of σ) h) rs (first_place p h) a m.0
      (λ z. ap (λ u. sites_in M u rs (first_place p h) a) w.0 ∙ f q.0 rs (first_place p h) i.0 (sym (ap (λ u. is_read_openly M.key u a) w.0) ∙ z)))
      (ap (λ u. sites_in M u (replications_below h rs) (second_place p h a) b) w.1 ∙ g q.1 (replications_below h rs) (second_place p h a) i.1 (sym (ap (λ u. is_read_openly M.key u b) w.1) ∙ m.1))

  by_call : (σ : Phrase) (rs : List (ℕ × ℕ)) (p : ℕ) (h : Head) (a b : Tree) → IsBare a → IsBare b → is_phrase σ (Node h a b) ≡ true → is_read_openly M.key (position_of σ) (Node h a b) ≡ false
      → (o : Option Call) → call_at M (Node h a b) ≡ o
      → elim o as (λ _. List Site) [
        | Some c ↦ record { place = p; term = Node h a b; replications = rs; call = c } ∷ []
        | None ↦ sites_below (position_of σ) rs p h a b
      ] ≡ []
  unfolding is_phrase is_read_openly
  by_call σ rs p h a b f g e n None k = by_parts σ rs p h a b f g (parts σ h) refl e n
  by_call σ rs p h a b f g e n (Some c) k =
      absurd (both_ways _ (sym (value_open M.key σ h a b (call_value (Node h a b) c k) e) ∙ n) (called M (Node h a b) 0 M.group.functions c k))

  no_sites : (t : Tree) → IsBare t
  unfolding sites_in
  no_sites Empty σ rs p e n = refl
  no_sites (Node h a b) σ rs p e n = by_call σ rs p h a b (no_sites a) (no_sites b) e n (call_at M (Node h a b)) refl

  some_site : (ss : List Site) → nat_lt 0 (length ss) ≡ true → ss ≡ [] → ⊥
  some_site [] e f = both_ways false refl e
  some_site (s ∷ ss) e f = cc

  pub read_openly : is_phrase Inputs M.scene.game ≡ true → nat_lt 0 (length (sites_of M)) ≡ true → is_read_openly M.key position.Anywhere M.scene.game ≡ true
  read_openly e n = go (is_read_openly M.key position.Anywhere M.scene.game) refl
    where
      go : (b : Bool) → is_read_openly M.key position.Anywhere M.scene.game ≡ b → b ≡ true
      go true f = refl
      go false f = absurd (some_site (sites_of M) n (no_sites M.scene.game Inputs [] 0 e f))
