-- Reads of a variable, and its equalities, counted: each equality takes one of its sides away.
use Rattle.std.proofs.Common.{◌≡◌, ℕ, zero, suc, ◌+◌, ◌≤◌, Bool, true, false, List, [], ◌∷◌, ◌++◌, length, Option, Some, None, refl, sym, ap, ap₂, subst, ◌∙◌, arith}
use Rattle.std.proofs.lemmas.Bool.{and_from, and_parts, and_right, both_ways, eq-eqb, or_left, or_right}
use Rattle.std.specs.Prelude.{◌&&◌, ◌||◌, ◌==◌, not, if◌then◌else◌, filter}
use Rattle.std.specs.List.{AllByRecursion}
use Rattle.cv_syntax_trees.specs.declared.head.Head.{Head}
use Rattle.cv_syntax_trees.specs.declared.head.Head.TheVariants.{Stop, Yield, Par, Repl, In, Out, Event, New, Let, If, Find, Branch, Leaf, Read, Apply, Eq, And, Or, Not, Yes, No, Cons, Binder, Name}
use Rattle.cv_syntax_trees.specs.Head.{weight}
use Rattle.cv_syntax_trees.specs.Tree.{Tree, Empty, Node, first_place, second_place}
use Rattle.cv_syntax_trees.specs.sites.Sites.{first_of}
use Rattle.cv_scope_rules.specs.Above.{first_standing, second_standing}
use Rattle.cv_scope_rules.specs.Context.{Context, first_position, nothing_known, second_position}
use Rattle.cv_scope_rules.specs.Phrases.{Arm, Binders, Body, Branches, Cells, Else, Guarded, Guards, Indices, Inputs, Message, Nil, OneCell, Pattern, Phrase, Term, Terms, Then, both_are, is_phrase, parts}
use Rattle.cv_scope_rules.specs.declared.position.Position.{Position}
use Rattle.cv_scope_rules.specs.declared.position.Position.TheVariants.{Anywhere}
use Rattle.cv_scope_runs.proofs.Rows.{position_of}
use Rattle.cv_scene.specs.Scenes.{head_reads}
use Rattle.cv_steps.specs.Rewriting.{is_term, parts_of}
use Rattle.cv_rule_birthday.specs.Comparing.{is_one_of}
use Rattle.cv_rule_birthday.specs.guess.Guessing.{Places, compares, first_other_read, first_read, has_value, is_equality, is_guess, reads}
use Rattle.cv_settling_rules.specs.Comparisons.{compares_one, places_of}
use Rattle.cv_settling_rules.specs.Spots.{Spot, spots_in}
use Rattle.cv_settling_rules.specs.Spots as spots
use Rattle.cv_settling_rules.specs.Variables.{is_read_here, reads_in, reads_of}
use Rattle.cv_settling_rules.proofs.Listing.{places, weight_le}
use Rattle.cv_strategy_rules.proofs.Placed.{same_one, same_parts, same_term}

abbrev one : Bool → ℕ
one b = if b then 1 else 0

-- the nodes of a phrase whose value is that of the variable
values : ℕ → Phrase → Tree → ℕ
values x σ Empty = 0
values x σ (Node h a b) = one (has_value σ && head_reads x h) + (values x (parts_of σ h).0 a + values x (parts_of σ h).1 b)

-- a term that is an equality with a side that reads the variable
abbrev is_compared : ℕ → Phrase → Head → (left right : Tree) → Bool
is_compared x σ h a b = is_term σ && (is_equality h && (reads x a || reads x b))

comparisons : ℕ → Phrase → Tree → ℕ
comparisons x σ Empty = 0
comparisons x σ (Node h a b) = one (is_compared x σ h a b) + (comparisons x (parts_of σ h).0 a + comparisons x (parts_of σ h).1 b)

-- the reads but for one side of each of these
others : ℕ → Phrase → (is_side : Bool) → Tree → ℕ
others x σ side Empty = 0
others x σ side (Node h a b) =
    one (has_value σ && (head_reads x h && not side))
    + (others x (parts_of σ h).0 (is_compared x σ h a b && reads x a) a + others x (parts_of σ h).1 (is_compared x σ h a b && not (reads x a)) b)

-- reads are counted along positions, and values along phrases: in the indices of a read they go apart

abbrev is_list : Phrase → Bool
is_list Nil = true
is_list Terms = true
is_list Term = true
is_list σ = false

data Tracks : (σ τ : Phrase) → Type 0 where
  alike : (σ : Phrase) → Tracks σ σ
  index : (τ : Phrase) → is_list τ ≡ true → Tracks Nil τ

record Row (σ : Phrase) (h : Head) (q : Phrase × Phrase) : Type 0 where
  first : first_position (position_of σ) h ≡ position_of q.0
  second : second_position (position_of σ) h ≡ position_of q.1
  own : (x : ℕ) → is_read_here x (position_of σ) h ≡ (has_value σ && head_reads x h)
  left : Tracks (parts_of σ h).0 q.0
  right : Tracks (parts_of σ h).1 q.1
  lists : is_list σ ≡ true → (is_list q.0 ≡ true) × (is_list q.1 ≡ true)

abbrev IsRow : Phrase → Head → Option (Phrase × Phrase) → Type 0
IsRow σ h None = Unit {0}
IsRow σ h (Some q) = Row σ h q

no_list : (A : Type 0) → false ≡ true → A
no_list A e = absurd (both_ways false refl e)

rows : (σ : Phrase) (h : Head) → IsRow σ h (parts σ h)
rows Inputs Stop = record { first = refl; second = refl; own = λ x. refl; left = alike Nil; right = alike Nil; lists = no_list _ }
rows Inputs Par = record { first = refl; second = refl; own = λ x. refl; left = alike Inputs; right = alike Inputs; lists = no_list _ }
rows Inputs (Repl i n) = record { first = refl; second = refl; own = λ x. refl; left = alike Nil; right = alike Inputs; lists = no_list _ }
rows Inputs (In c) = record { first = refl; second = refl; own = λ x. refl; left = alike Pattern; right = alike Body; lists = no_list _ }
rows Body Yield = record { first = refl; second = refl; own = λ x. refl; left = alike Nil; right = alike Nil; lists = no_list _ }
rows Body (Out c) = record { first = refl; second = refl; own = λ x. refl; left = alike Message; right = alike Inputs; lists = no_list _ }
rows Body (New x T) = record { first = refl; second = refl; own = λ x. refl; left = alike Nil; right = alike Body; lists = no_list _ }
rows Body (Let x T) = record { first = refl; second = refl; own = λ x. refl; left = alike Term; right = alike Body; lists = no_list _ }
rows Body (Event e) = record { first = refl; second = refl; own = λ x. refl; left = alike Terms; right = alike Body; lists = no_list _ }
rows Body If = record { first = refl; second = refl; own = λ x. refl; left = alike Term; right = alike Then; lists = no_list _ }
rows Body (Find l) = record { first = refl; second = refl; own = λ x. refl; left = alike Branches; right = alike Body; lists = no_list _ }
rows Then Cons = record { first = refl; second = refl; own = λ x. refl; left = alike Body; right = alike Else; lists = no_list _ }
rows Else Cons = record { first = refl; second = refl; own = λ x. refl; left = alike Body; right = alike Nil; lists = no_list _ }
rows Branches Cons = record { first = refl; second = refl; own = λ x. refl; left = alike Arm; right = alike Branches; lists = no_list _ }
rows Arm Branch = record { first = refl; second = refl; own = λ x. refl; left = alike Binders; right = alike Guards; lists = no_list _ }
rows Guards Cons = record { first = refl; second = refl; own = λ x. refl; left = alike Cells; right = alike Guarded; lists = no_list _ }
rows Guarded Cons = record { first = refl; second = refl; own = λ x. refl; left = alike Term; right = alike Body; lists = no_list _ }
rows Pattern Cons = record { first = refl; second = refl; own = λ x. refl; left = alike Indices; right = alike Binders; lists = no_list _ }
rows Message Cons = record { first = refl; second = refl; own = λ x. refl; left = alike Indices; right = alike Terms; lists = no_list _ }
rows Indices (Name i) = record { first = refl; second = refl; own = λ x. refl; left = alike Nil; right = alike Indices; lists = no_list _ }
rows Binders (Binder x T) = record { first = refl; second = refl; own = λ x. refl; left = alike Nil; right = alike Binders; lists = no_list _ }
rows Cells Cons = record { first = refl; second = refl; own = λ x. refl; left = alike OneCell; right = alike Cells; lists = no_list _ }
rows OneCell (Leaf x) = record { first = refl; second = refl; own = λ x. refl; left = alike Nil; right = alike Nil; lists = no_list _ }
rows OneCell (Read x) = record { first = refl; second = refl; own = λ x. refl; left = index Terms refl; right = alike Nil; lists = no_list _ }
rows Terms Cons = record { first = refl; second = refl; own = λ x. refl; left = alike Term; right = alike Terms; lists = λ e. (refl, refl) }
rows Term (Leaf x) = record { first = refl; second = refl; own = λ x. refl; left = alike Nil; right = alike Nil; lists = λ e. (refl, refl) }
rows Term (Read x) = record { first = refl; second = refl; own = λ x. refl; left = index Terms refl; right = alike Nil; lists = λ e. (refl, refl) }
rows Term (Apply f) = record { first = refl; second = refl; own = λ x. refl; left = alike Terms; right = alike Nil; lists = λ e. (refl, refl) }
rows Term Eq = record { first = refl; second = refl; own = λ x. refl; left = alike Term; right = alike Term; lists = λ e. (refl, refl) }
rows Term And = record { first = refl; second = refl; own = λ x. refl; left = alike Term; right = alike Term; lists = λ e. (refl, refl) }
rows Term Or = record { first = refl; second = refl; own = λ x. refl; left = alike Term; right = alike Term; lists = λ e. (refl, refl) }
rows Term Not = record { first = refl; second = refl; own = λ x. refl; left = alike Term; right = alike Nil; lists = λ e. (refl, refl) }
rows Term Yes = record { first = refl; second = refl; own = λ x. refl; left = alike Nil; right = alike Nil; lists = λ e. (refl, refl) }
rows Term No = record { first = refl; second = refl; own = λ x. refl; left = alike Nil; right = alike Nil; lists = λ e. (refl, refl) }
rows σ h = tt

nil_parts : (h : Head) → parts_of Nil h ≡ (Nil, Nil)
nil_parts (Read x) = refl
nil_parts h = refl

-- in a list of terms each read counts
own_in_list : (τ : Phrase) (x : ℕ) (h : Head) → is_list τ ≡ true → is_read_here x (position_of τ) h ≡ head_reads x h
own_in_list Nil x h e = refl
own_in_list Terms x h e = refl
own_in_list Term x h e = refl
own_in_list τ x h e = no_list _ e

own_of : (σ τ : Phrase) (h : Head) (q : Phrase × Phrase) → Tracks σ τ → Row τ h q → (x : ℕ) → is_read_here x (position_of τ) h ≡ (has_value σ && head_reads x h)
own_of σ τ h q (alike ρ) r x = r.own x
own_of σ τ h q (index ρ l) r x = own_in_list ρ x h l

below_of : (σ τ : Phrase) (h : Head) (q : Phrase × Phrase) → Tracks σ τ → Row τ h q → Tracks (parts_of σ h).0 q.0 × Tracks (parts_of σ h).1 q.1
below_of σ τ h q (alike ρ) r = (r.left, r.right)
below_of σ τ h q (index ρ l) r =
    subst (λ (p : Phrase × Phrase). Tracks p.0 q.0 × Tracks p.1 q.1) (sym (nil_parts h)) (index q.0 (r.lists l).0, index q.1 (r.lists l).1)

abbrev AreValues : ℕ → Tree → Type 0
AreValues x t = (σ τ : Phrase) → Tracks σ τ → is_phrase τ t ≡ true → reads_in x (position_of τ) t ≡ values x σ t

counted_by : (x : ℕ) (σ τ : Phrase) (h : Head) (a b : Tree) (o : Option (Phrase × Phrase)) → Tracks σ τ → IsRow τ h o → both_are o (λ ρ. is_phrase ρ a) (λ ρ. is_phrase ρ b) ≡ true → AreValues x a → AreValues x b
    → one (is_read_here x (position_of τ) h) + (reads_in x (first_position (position_of τ) h) a + reads_in x (second_position (position_of τ) h) b)
    ≡ one (has_value σ && head_reads x h) + (values x (parts_of σ h).0 a + values x (parts_of σ h).1 b)
counted_by x σ τ h a b None k r e f g = no_list _ e
counted_by x σ τ h a b (Some q) k r e f g =
    let p = and_parts (is_phrase q.0 a) (is_phrase q.1 b) e in
    let t = below_of σ τ h q k r in
    ap₂ ◌+◌ (ap one (own_of σ τ h q k r x))
    (ap₂ ◌+◌ (ap (λ w. reads_in x w a) r.first ∙ f (parts_of σ h).0 q.0 t.0 p.0) (ap (λ w. reads_in x w b) r.second ∙ g (parts_of σ h).1 q.1 t.1 p.1))

are_values : (x : ℕ) (t : Tree) → AreValues x t
unfolding reads_in values is_phrase
are_values x Empty σ τ k e = refl
are_values x (Node h a b) σ τ k e = counted_by x σ τ h a b (parts τ h) k (rows τ h) e (are_values x a) (are_values x b)

reads_are_values : (x : ℕ) (game : Tree) → is_phrase Inputs game ≡ true → reads_in x Anywhere game ≡ values x Inputs game
reads_are_values x game e = are_values x game Inputs Inputs (alike Inputs) e

-- one side of each equality is taken away

split_one : (v r side : Bool) → one (v && r) ≡ one (v && (r && not side)) + one (side && (v && r))
split_one true true true = refl
split_one true true false = refl
split_one true false true = refl
split_one true false false = refl
split_one false r true = refl
split_one false r false = refl

abbrev side_of : ℕ → Phrase → (is_side : Bool) → Tree → ℕ
side_of x σ side t = one (side && (has_value σ && reads x t))

abbrev first_side : ℕ → Phrase → Head → (a b : Tree) → Bool
first_side x σ h a b = is_compared x σ h a b && reads x a

abbrev second_side : ℕ → Phrase → Head → (a b : Tree) → Bool
second_side x σ h a b = is_compared x σ h a b && not (reads x a)

of_sides : (l r : Bool) → one ((l || r) && l && l) ≡ one l
of_sides true r = refl
of_sides false true = refl
of_sides false false = refl

both_sides : (l r : Bool) → one (((l || r) && l) && l) + one (((l || r) && not l) && r) ≡ one (l || r)
both_sides true r = refl
both_sides false true = refl
both_sides false false = refl

sides : (x : ℕ) (σ : Phrase) (h : Head) (a b : Tree)
    → side_of x (parts_of σ h).0 (first_side x σ h a b) a + side_of x (parts_of σ h).1 (second_side x σ h a b) b ≡ one (is_compared x σ h a b)
sides x Term Eq a b = both_sides (reads x a) (reads x b)
sides x Term h a b = refl
sides x σ h a b = refl

add_up : (vr o s oa ob ca cb sa sb g m n : ℕ) → vr ≡ o + s → m ≡ (oa + ca) + sa → n ≡ (ob + cb) + sb → sa + sb ≡ g → vr + (m + n) ≡ ((o + (oa + ob)) + (g + (ca + cb))) + s
add_up vr o s oa ob ca cb sa sb g m n e f k l = omega arith

no_side : (side v : Bool) → 0 ≡ one (side && (v && false))
no_side true true = refl
no_side true false = refl
no_side false v = refl

are_split : (x : ℕ) (t : Tree) (σ : Phrase) (side : Bool) → values x σ t ≡ (others x σ side t + comparisons x σ t) + side_of x σ side t
unfolding values others comparisons
are_split x Empty σ side = let e : 0 ≡ one (side && (has_value σ && false)) = no_side side (has_value σ) in omega arith
are_split x (Node h a b) σ side =
    add_up (one (has_value σ && head_reads x h)) _ (side_of x σ side (Node h a b)) (others x (parts_of σ h).0 (first_side x σ h a b) a) _
    (comparisons x (parts_of σ h).0 a) _ (side_of x (parts_of σ h).0 (first_side x σ h a b) a) _ _ _ _
    (split_one (has_value σ) (head_reads x h) side)
    (are_split x a (parts_of σ h).0 (first_side x σ h a b)) (are_split x b (parts_of σ h).1 (second_side x σ h a b)) (sides x σ h a b)

-- places

-- the places have each of these equalities
Covers : ℕ → Places → Phrase → (place : ℕ) → Tree → Type 0
Covers x ps σ p Empty = Unit {0}
Covers x ps σ p (Node h a b) =
    (is_compared x σ h a b ≡ true → ps p ≡ true)
    × (Covers x ps (parts_of σ h).0 (first_place p h) a × Covers x ps (parts_of σ h).1 (second_place p h a) b)

same_guess : (c e k w : Bool) → ((c && (e && w)) ≡ true → k ≡ true) → (c && (e && (k && w))) ≡ (c && (e && w))
same_guess false e k w f = refl
same_guess true false k w f = refl
same_guess true true k true f = and_from k true (f refl) refl
same_guess true true k false f = and_right k false refl

none_from : (b : Bool) (p m n : ℕ) (o q : Option ℕ) → one b + (m + n) ≡ 0 → (m ≡ 0 → o ≡ None) → (n ≡ 0 → q ≡ None) → (if b then Some p else first_of o q) ≡ None
none_from true p m n o q e f g = absurd (omega arith)
none_from false p m n o q e f g = ap₂ first_of (f (omega arith)) (g (omega arith))

none_parts : (o q : Option ℕ) → first_of o q ≡ None → (o ≡ None) × (q ≡ None)
none_parts None q e = (refl, e)
none_parts (Some p) q e = absurd (cc)

count_from : (b : Bool) (p m n : ℕ) (o q : Option ℕ) → (if b then Some p else first_of o q) ≡ None → (o ≡ None → m ≡ 0) → (q ≡ None → n ≡ 0) → one b + (m + n) ≡ 0
count_from true p m n o q e f g = absurd (cc)
count_from false p m n o q e f g =
    let k : m ≡ 0 = f (none_parts o q e).0 in
    let l : n ≡ 0 = g (none_parts o q e).1 in
    omega arith

module _ (x : ℕ) (ps : Places) where
  abbrev left_read : Phrase → ℕ → Head → (a b : Tree) → (compared : Bool) → Option ℕ
  left_read σ p h a b c = first_read x ps (parts_of σ h).0 (c && reads x a) (first_place p h) a

  abbrev right_read : Phrase → ℕ → Head → (a b : Tree) → (compared : Bool) → Option ℕ
  right_read σ p h a b c = first_read x ps (parts_of σ h).1 (c && not (reads x a)) (second_place p h a) b

  guess_is : (σ : Phrase) (p : ℕ) (h : Head) (a b : Tree) → (is_compared x σ h a b ≡ true → ps p ≡ true) → is_guess x ps σ p h a b ≡ is_compared x σ h a b
  guess_is σ p h a b f = same_guess (is_term σ) (is_equality h) (ps p) (reads x a || reads x b) f

  abbrev found_at : Phrase → Bool → ℕ → Head → (a b : Tree) → Bool → Option ℕ
  found_at σ side p h a b c =
      if has_value σ && (head_reads x h && not side) then Some p else first_of (left_read σ p h a b c) (right_read σ p h a b c)

  none_is : (t : Tree) (σ : Phrase) (side : Bool) (p : ℕ) → Covers x ps σ p t → others x σ side t ≡ 0 → first_read x ps σ side p t ≡ None
  unfolding first_read others Covers
  none_is Empty σ side p c e = refl
  none_is (Node h a b) σ side p c e =
      ap (found_at σ side p h a b) (guess_is σ p h a b c.0)
      ∙ none_from (has_value σ && (head_reads x h && not side)) p _ _ _ _ e
      (none_is a (parts_of σ h).0 (first_side x σ h a b) (first_place p h) c.1.0)
      (none_is b (parts_of σ h).1 (second_side x σ h a b) (second_place p h a) c.1.1)

  is_none : (t : Tree) (σ : Phrase) (side : Bool) (p : ℕ) → Covers x ps σ p t → first_read x ps σ side p t ≡ None → others x σ side t ≡ 0
  unfolding first_read others Covers
  is_none Empty σ side p c e = refl
  is_none (Node h a b) σ side p c e =
      count_from (has_value σ && (head_reads x h && not side)) p _ _ _ _ (sym (ap (found_at σ side p h a b) (guess_is σ p h a b c.0)) ∙ e)
      (is_none a (parts_of σ h).0 (first_side x σ h a b) (first_place p h) c.1.0)
      (is_none b (parts_of σ h).1 (second_side x σ h a b) (second_place p h a) c.1.1)

-- spots

abbrev is_seen : ℕ → Spot → Bool
is_seen x v = spots.is_term v.phrase && compares_one x v.tree

same_node : (x : ℕ) (h : Head) (a b : Tree) → (is_equality h && (reads x a || reads x b)) ≡ compares x (Node h a b)
same_node x Eq a b = refl
same_node x h a b = refl

compared_is : (x : ℕ) (σ : Phrase) (h : Head) (a b : Tree) → is_compared x σ h a b ≡ (spots.is_term σ && compares_one x (Node h a b))
compared_is x σ h a b = ap₂ ◌&&◌ (same_term σ) (same_node x h a b ∙ sym (same_one x (Node h a b)))

one_weight : (c : Bool) (h : Head) (w : Bool) → (c && (is_equality h && w)) ≡ true → weight h ≡ 1
one_weight true Eq w e = refl
one_weight true h w e = no_list _ e
one_weight false h w e = no_list _ e

all_parts : (P : Spot → Type 0) (us vs : List Spot) → AllByRecursion P (us ++ vs) → AllByRecursion P us × AllByRecursion P vs
all_parts P [] vs q = (tt, q)
all_parts P (u ∷ us) vs q = let r = all_parts P us vs q.1 in ((q.0, r.0), r.1)

of_one : (P : Spot → Type 0) (n : ℕ) (v : Spot) → AllByRecursion P (if n == 1 then v ∷ [] else []) → n ≡ 1 → P v
of_one P n v q e = (subst (λ m. AllByRecursion P (if m == 1 then v ∷ [] else [])) e q).0

module _ (x : ℕ) (ps : Places) where
  abbrev IsThere : Spot → Type 0
  IsThere v = is_seen x v ≡ true → ps v.place ≡ true

  covers : (t : Tree) (σ : Phrase) (w : Position) (Γ : Context) (p : ℕ) → AllByRecursion IsThere (spots_in σ w Γ p t) → Covers x ps σ p t
  unfolding spots_in Covers
  covers Empty σ w Γ p q = tt
  covers (Node h a b) σ w Γ p q =
      let r = all_parts IsThere _ _ q in
      let s = all_parts IsThere _ _ r.1 in
      let v : Spot = record { place = p; phrase = σ; above = Γ; tree = Node h a b } in (
        (λ e. of_one IsThere (weight h) v r.0 (one_weight (is_term σ) h (reads x a || reads x b) e) (sym (compared_is x σ h a b) ∙ e)),
        (
          subst (λ (k : Phrase × Phrase). Covers x ps k.0 (first_place p h) a) (same_parts σ h) (covers a _ (first_position w h) (first_standing w h Γ) (first_place p h) s.0),
          subst (λ (k : Phrase × Phrase). Covers x ps k.1 (second_place p h a) b) (same_parts σ h) (covers b _ (second_position w h) (second_standing w h a Γ) (second_place p h a) s.1),
        ),
      )

one_more : (b : Bool) (v : Spot) (us : List Spot) (p : ℕ) → is_one_of (places us) p ≡ true → is_one_of (places (if b then v ∷ us else us)) p ≡ true
one_more true v us p e = or_right (v.place == p) (is_one_of (places us) p) e
one_more false v us p e = e

first_one : (b : Bool) (v : Spot) (us : List Spot) → b ≡ true → is_one_of (places (if b then v ∷ us else us)) v.place ≡ true
first_one true v us e = or_left (v.place == v.place) (is_one_of (places us) v.place) (eq-eqb v.place v.place refl)
first_one false v us e = no_list _ e

are_there : (f : Spot → Bool) (ps : Places) (vs : List Spot) → ((p : ℕ) → is_one_of (places (filter f vs)) p ≡ true → ps p ≡ true) → AllByRecursion (λ (v : Spot). f v ≡ true → ps v.place ≡ true) vs
are_there f ps [] g = tt
are_there f ps (v ∷ vs) g =
    ((λ e. g v.place (first_one (f v) v (filter f vs) e)), are_there f ps vs (λ p e. g p (one_more (f v) v (filter f vs) p e)))

-- how many places there are

abbrev count : ℕ → List Spot → ℕ
count x vs = length (places (filter (is_seen x) vs))

count_one : (b : Bool) (v : Spot) (us : List Spot) → length (places (if b then v ∷ us else us)) ≡ one b + length (places us)
count_one true v us = omega arith
count_one false v us = omega arith

more : (k m n s : ℕ) → k ≡ m + n → s + k ≡ (s + m) + n
more k m n s e = omega arith

count-append : (x : ℕ) (us vs : List Spot) → count x (us ++ vs) ≡ count x us + count x vs
count-append x [] vs = omega arith
count-append x (u ∷ us) vs =
    count_one (is_seen x u) u (filter (is_seen x) (us ++ vs))
    ∙ (more (count x (us ++ vs)) (count x us) (count x vs) (one (is_seen x u)) (count-append x us vs)
    ∙ ap (λ n. n + count x vs) (sym (count_one (is_seen x u) u (filter (is_seen x) us))))

zero_compared : (c : Bool) (h : Head) (w : Bool) → weight h ≡ 0 → one (c && (is_equality h && w)) ≡ 0
zero_compared true Eq w e = absurd (omega arith)
zero_compared true h w e = refl
zero_compared false h w e = refl

node_count : (x n : ℕ) (v : Spot) (c : Bool) → n ≤ 1 → is_seen x v ≡ c → (n ≡ 0 → one c ≡ 0) → count x (if n == 1 then v ∷ [] else []) ≡ one c
node_count x zero v c l e f = sym (f refl)
node_count x (suc zero) v c l e f =
    let k : count x (v ∷ []) ≡ one (is_seen x v) + 0 = count_one (is_seen x v) v [] in
    let i : one (is_seen x v) ≡ one c = ap one e in
    omega arith
node_count x (suc (suc n)) v c l e f = absurd (omega arith)

spots_are_counted : (x : ℕ) (t : Tree) (σ : Phrase) (w : Position) (Γ : Context) (p : ℕ) → count x (spots_in σ w Γ p t) ≡ comparisons x σ t
unfolding spots_in comparisons
spots_are_counted x Empty σ w Γ p = refl
spots_are_counted x (Node h a b) σ w Γ p =
    let v : Spot = record { place = p; phrase = σ; above = Γ; tree = Node h a b } in
    count-append x (if weight h == 1 then v ∷ [] else []) _
    ∙ ap₂ ◌+◌ (node_count x (weight h) v (is_compared x σ h a b) (weight_le h) (sym (compared_is x σ h a b)) (zero_compared (is_term σ) h (reads x a || reads x b)))
    (count-append x (spots_in (spots.parts_below σ h).0 (first_position w h) (first_standing w h Γ) (first_place p h) a) (spots_in (spots.parts_below σ h).1 (second_position w h) (second_standing w h a Γ) (second_place p h a) b)
    ∙ ap₂ ◌+◌
    (spots_are_counted x a _ (first_position w h) (first_standing w h Γ) (first_place p h) ∙ ap (λ (k : Phrase × Phrase). comparisons x k.0 a) (same_parts σ h))
    (spots_are_counted x b _ (second_position w h) (second_standing w h a Γ) (second_place p h a) ∙ ap (λ (k : Phrase × Phrase). comparisons x k.1 b) (same_parts σ h)))

-- all reads stand in equalities exactly where there are as many

module _ (x : ℕ) (game : Tree) (f : is_phrase Inputs game ≡ true) where
  abbrev listed : List ℕ
  listed = places_of (compares_one x) game

  reads_are : reads_of game x ≡ others x Inputs false game + length listed
  reads_are =
      let k : length listed ≡ comparisons x Inputs game = spots_are_counted x game Inputs Anywhere nothing_known 0 in
      let r : reads_of game x ≡ values x Inputs game = reads_are_values x game f in
      let s : values x Inputs game ≡ (others x Inputs false game + comparisons x Inputs game) + 0 = are_split x game Inputs false in
      omega arith

  is_covered : Covers x (is_one_of listed) Inputs 0 game
  is_covered = covers x (is_one_of listed) game Inputs Anywhere nothing_known 0 (are_there (is_seen x) (is_one_of listed) (spots.spots game) (λ p e. e))

  pub alone_where_counted : length listed ≡ reads_of game x → first_other_read listed x game ≡ None
  alone_where_counted e =
      let r = reads_are in
      none_is x (is_one_of listed) game Inputs false 0 is_covered (omega arith)

  pub counted_where_alone : first_other_read listed x game ≡ None → length listed ≡ reads_of game x
  counted_where_alone e =
      let r = reads_are in
      let n : others x Inputs false game ≡ 0 = is_none x (is_one_of listed) game Inputs false 0 is_covered e in
      omega arith
