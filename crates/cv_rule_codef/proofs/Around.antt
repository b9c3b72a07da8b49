-- The `find` around a branch at a place, and the game with another branch there.
use Rattle.std.proofs.Common.{◌≡◌, ℕ, ◌+◌, ◌-◌, ◌<◌, Bool, true, false, cond, ◌⊎◌, inl, inr, Option, Some, None, refl, sym, ap, ap₂, subst, ◌∙◌, arith, nat_lt, le-ltb, lt-ltb}
use Rattle.std.proofs.lemmas.Bool.{both_ways}
use Rattle.cv_syntax_trees.specs.declared.head.Head.{Head}
use Rattle.cv_syntax_trees.specs.declared.head.Head.TheVariants.{And, Apply, Binder, Branch, Cons, Eq, Event, Find, If, In, Leaf, Let, Name, New, No, Not, Or, Out, Par, Read, Repl, Stop, Yes, Yield}
use Rattle.cv_syntax_trees.specs.Head.{weight}
use Rattle.cv_syntax_trees.specs.Tree.{Tree, Empty, Node, size, subtree}
use Rattle.cv_meaning.specs.Replaced.{replaced}
use Rattle.cv_scope_rules.specs.Phrases.{Phrase, Nil, Inputs, Body, Then, Else, Branches, Arm, Guards, Guarded, Pattern, Message, Indices, Binders, Cells, OneCell, Terms, Term, is_phrase, parts}
use Rattle.cv_steps.proofs.Flat.{open_phrase}

-- one of the items of a list is another
pub data IsOneItem (old new : Tree) : Tree → Tree → Type 0 where
  this : {more : Tree} → IsOneItem old new (Node Cons old more) (Node Cons new more)
  later : {item more rest : Tree} → IsOneItem old new more rest → IsOneItem old new (Node Cons item more) (Node Cons item rest)

-- a `find` stands in the tree, with the branch among its own
pub record IsAround (old new t changed_tree : Tree) : Type 0 where
  pub place : ℕ
  pub label : ℕ
  pub arms : Tree
  pub changed : Tree
  pub otherwise : Tree
  pub there : subtree t place ≡ Some (Node (Find label) arms otherwise)
  pub below : place < size t
  pub one : IsOneItem old new arms changed
  pub phrases : is_phrase Branches arms ≡ true
  pub next : changed_tree ≡ replaced t place (Node (Find label) changed otherwise)

subtree_second : (h : Head) (a b : Tree) (q : ℕ) → subtree (Node h a b) (weight h + size a + q) ≡ subtree b q
unfolding subtree
subtree_second h a b q =
    ap₂ (λ v w. cond v (Some (Node h a b)) (cond w (subtree a (weight h + size a + q - weight h)) (subtree b (weight h + size a + q - (weight h + size a))))) (le-ltb (weight h + size a + q) (weight h) (omega arith)) (le-ltb (weight h + size a + q) (weight h + size a) (omega arith))
    ∙ ap (subtree b) (let e : weight h + size a + q - (weight h + size a) ≡ q = omega arith in e)

subtree_first : (h : Head) (a b : Tree) (q : ℕ) → q < size a → subtree (Node h a b) (weight h + q) ≡ subtree a q
unfolding subtree
subtree_first h a b q l =
    ap₂ (λ v w. cond v (Some (Node h a b)) (cond w (subtree a (weight h + q - weight h)) (subtree b (weight h + q - (weight h + size a))))) (le-ltb (weight h + q) (weight h) (omega arith)) (lt-ltb (weight h + q) (weight h + size a) (omega arith))
    ∙ ap (subtree a) (let e : weight h + q - weight h ≡ q = omega arith in e)

replaced_second : (h : Head) (a b new : Tree) (q : ℕ) → replaced (Node h a b) (weight h + size a + q) new ≡ Node h a (replaced b q new)
unfolding replaced
replaced_second h a b new q =
    ap₂ (λ v w. cond v new (cond w (Node h (replaced a (weight h + size a + q - weight h) new) b) (Node h a (replaced b (weight h + size a + q - (weight h + size a)) new)))) (le-ltb (weight h + size a + q) (weight h) (omega arith)) (le-ltb (weight h + size a + q) (weight h + size a) (omega arith))
    ∙ ap (λ z. Node h a (replaced b z new)) (let e : weight h + size a + q - (weight h + size a) ≡ q = omega arith in e)

replaced_first : (h : Head) (a b new : Tree) (q : ℕ) → q < size a → replaced (Node h a b) (weight h + q) new ≡ Node h (replaced a q new) b
unfolding replaced
replaced_first h a b new q l =
    ap₂ (λ v w. cond v new (cond w (Node h (replaced a (weight h + q - weight h) new) b) (Node h a (replaced b (weight h + q - (weight h + size a)) new)))) (le-ltb (weight h + q) (weight h) (omega arith)) (lt-ltb (weight h + q) (weight h + size a) (omega arith))
    ∙ ap (λ z. Node h (replaced a z new) b) (let e : weight h + q - weight h ≡ q = omega arith in e)

-- what the children of a node are; nothing, where no such node stands

abbrev children_by : Option (Phrase × Phrase) → Phrase × Phrase
children_by None = (Nil, Nil)
children_by (Some q) = q

abbrev children_of : Phrase → Head → Phrase × Phrase
children_of σ h = children_by (parts σ h)

module _ (us guards new : Tree) where
  abbrev old : Tree
  old = Node Branch us guards

  lift_first : (h : Head) (a b c : Tree) → IsAround old new a c → IsAround old new (Node h a b) (Node h c b)
  unfolding size
  lift_first h a b c k =
      let l = k.below in
      record {
        place = weight h + k.place;
        label = k.label;
        arms = k.arms;
        changed = k.changed;
        otherwise = k.otherwise;
        there = subtree_first h a b k.place k.below ∙ k.there;
        below = omega arith;
        one = k.one;
        phrases = k.phrases;
        next = ap (λ z. Node h z b) k.next ∙ sym (replaced_first h a b (Node (Find k.label) k.changed k.otherwise) k.place k.below);
      }

  lift_second : (h : Head) (a b c : Tree) → IsAround old new b c → IsAround old new (Node h a b) (Node h a c)
  unfolding size
  lift_second h a b c k =
      let l = k.below in
      record {
        place = weight h + size a + k.place;
        label = k.label;
        arms = k.arms;
        changed = k.changed;
        otherwise = k.otherwise;
        there = subtree_second h a b k.place ∙ k.there;
        below = omega arith;
        one = k.one;
        phrases = k.phrases;
        next = ap (Node h a) k.next ∙ sym (replaced_second h a b (Node (Find k.label) k.changed k.otherwise) k.place);
      }

  -- what a walk finds, with the tree that it changes into: the branch itself, one of a list, or a `find` around it
  abbrev Found : Phrase → Tree → Tree → Type 0
  Found Arm t c = ((t ≡ old) × (c ≡ new)) ⊎ IsAround old new t c
  Found Branches t c = IsOneItem old new t c ⊎ IsAround old new t c
  Found σ t c = IsAround old new t c

  first_found : (σ : Phrase) (h : Head) (a b c : Tree) → is_phrase (children_of σ h).0 a ≡ true → Found (children_of σ h).0 a c → Found σ (Node h a b) (Node h c b)
  unfolding size subtree replaced
  first_found Branches Cons a b c f (inl k) = inl (subst (λ t. IsOneItem old new (Node Cons t b) (Node Cons c b)) (sym k.0) (subst (λ t. IsOneItem old new (Node Cons old b) (Node Cons t b)) (sym k.1) this))
  first_found Branches Cons a b c f (inr k) = inr (lift_first Cons a b c k)
  first_found Branches h a b c f k = inr (lift_first h a b c k)
  first_found Body (Find l) a b c f (inl k) = record { place = 0; label = l; arms = a; changed = c; otherwise = b; there = refl; below = omega arith; one = k; phrases = f; next = refl }
  first_found Body (Find l) a b c f (inr k) = lift_first (Find l) a b c k
  first_found Inputs Stop a b c f k = lift_first Stop a b c k
  first_found Inputs Par a b c f k = lift_first Par a b c k
  first_found Inputs (Repl i n) a b c f k = lift_first (Repl i n) a b c k
  first_found Inputs (In d) a b c f k = lift_first (In d) a b c k
  first_found Body Yield a b c f k = lift_first Yield a b c k
  first_found Body (Out d) a b c f k = lift_first (Out d) a b c k
  first_found Body (New x T) a b c f k = lift_first (New x T) a b c k
  first_found Body (Let x T) a b c f k = lift_first (Let x T) a b c k
  first_found Body (Event e) a b c f k = lift_first (Event e) a b c k
  first_found Body If a b c f k = lift_first If a b c k
  first_found Then Cons a b c f k = lift_first Cons a b c k
  first_found Else Cons a b c f k = lift_first Cons a b c k
  first_found Arm Branch a b c f k = inr (lift_first Branch a b c k)
  first_found Guards Cons a b c f k = lift_first Cons a b c k
  first_found Guarded Cons a b c f k = lift_first Cons a b c k
  first_found Pattern Cons a b c f k = lift_first Cons a b c k
  first_found Message Cons a b c f k = lift_first Cons a b c k
  first_found Indices (Name i) a b c f k = lift_first (Name i) a b c k
  first_found Binders (Binder x T) a b c f k = lift_first (Binder x T) a b c k
  first_found Cells Cons a b c f k = lift_first Cons a b c k
  first_found OneCell (Leaf x) a b c f k = lift_first (Leaf x) a b c k
  first_found OneCell (Read x) a b c f k = lift_first (Read x) a b c k
  first_found Terms Cons a b c f k = lift_first Cons a b c k
  first_found Term (Leaf x) a b c f k = lift_first (Leaf x) a b c k
  first_found Term (Read x) a b c f k = lift_first (Read x) a b c k
  first_found Term (Apply y) a b c f k = lift_first (Apply y) a b c k
  first_found Term Eq a b c f k = lift_first Eq a b c k
  first_found Term And a b c f k = lift_first And a b c k
  first_found Term Or a b c f k = lift_first Or a b c k
  first_found Term Not a b c f k = lift_first Not a b c k
  first_found Term Yes a b c f k = lift_first Yes a b c k
  first_found Term No a b c f k = lift_first No a b c k
  first_found Arm h a b c f k = inr (lift_first h a b c k)
  first_found σ h a b c f k = lift_first h a b c k

  second_found : (σ : Phrase) (h : Head) (a b c : Tree) → Found (children_of σ h).1 b c → Found σ (Node h a b) (Node h a c)
  second_found Branches Cons a b c (inl k) = inl (later k)
  second_found Branches Cons a b c (inr k) = inr (lift_second Cons a b c k)
  second_found Branches h a b c k = inr (lift_second h a b c k)
  second_found Body (Find l) a b c k = lift_second (Find l) a b c k
  second_found Inputs Stop a b c k = lift_second Stop a b c k
  second_found Inputs Par a b c k = lift_second Par a b c k
  second_found Inputs (Repl i n) a b c k = lift_second (Repl i n) a b c k
  second_found Inputs (In d) a b c k = lift_second (In d) a b c k
  second_found Body Yield a b c k = lift_second Yield a b c k
  second_found Body (Out d) a b c k = lift_second (Out d) a b c k
  second_found Body (New x T) a b c k = lift_second (New x T) a b c k
  second_found Body (Let x T) a b c k = lift_second (Let x T) a b c k
  second_found Body (Event e) a b c k = lift_second (Event e) a b c k
  second_found Body If a b c k = lift_second If a b c k
  second_found Then Cons a b c k = lift_second Cons a b c k
  second_found Else Cons a b c k = lift_second Cons a b c k
  second_found Arm Branch a b c k = inr (lift_second Branch a b c k)
  second_found Guards Cons a b c k = lift_second Cons a b c k
  second_found Guarded Cons a b c k = lift_second Cons a b c k
  second_found Pattern Cons a b c k = lift_second Cons a b c k
  second_found Message Cons a b c k = lift_second Cons a b c k
  second_found Indices (Name i) a b c k = lift_second (Name i) a b c k
  second_found Binders (Binder x T) a b c k = lift_second (Binder x T) a b c k
  second_found Cells Cons a b c k = lift_second Cons a b c k
  second_found OneCell (Leaf x) a b c k = lift_second (Leaf x) a b c k
  second_found OneCell (Read x) a b c k = lift_second (Read x) a b c k
  second_found Terms Cons a b c k = lift_second Cons a b c k
  second_found Term (Leaf x) a b c k = lift_second (Leaf x) a b c k
  second_found Term (Read x) a b c k = lift_second (Read x) a b c k
  second_found Term (Apply y) a b c k = lift_second (Apply y) a b c k
  second_found Term Eq a b c k = lift_second Eq a b c k
  second_found Term And a b c k = lift_second And a b c k
  second_found Term Or a b c k = lift_second Or a b c k
  second_found Term Not a b c k = lift_second Not a b c k
  second_found Term Yes a b c k = lift_second Yes a b c k
  second_found Term No a b c k = lift_second No a b c k
  second_found Arm h a b c k = inr (lift_second h a b c k)
  second_found σ h a b c k = lift_second h a b c k

  here_found : (σ : Phrase) (t c : Tree) → t ≡ old → c ≡ new → is_phrase σ old ≡ true → Found σ t c
  unfolding is_phrase
  here_found Arm t c e n f = inl (e, n)
  here_found σ t c e n f = absurd (both_ways false refl f)

  found : (σ : Phrase) (t : Tree) (q : ℕ) → is_phrase σ t ≡ true → subtree t q ≡ Some old → Found σ t (replaced t q new)
  unfolding subtree replaced
  found σ Empty q f s = absurd (cc)
  found σ (Node h a b) q f s =
      let o = open_phrase σ h a b f in
      let e : children_of σ h ≡ o.0 = ap children_by o.1 in
      go (nat_lt q (weight h)) (nat_lt q (weight h + size a)) s
      (λ z. first_found σ h a b (replaced a (q - weight h) new) (ap (λ (r : Phrase × Phrase). is_phrase r.0 a) e ∙ o.2) (subst (λ (r : Phrase × Phrase). Found r.0 a (replaced a (q - weight h) new)) (sym e) (found o.0.0 a (q - weight h) o.2 z)))
      (λ z. second_found σ h a b (replaced b (q - (weight h + size a)) new) (subst (λ (r : Phrase × Phrase). Found r.1 b (replaced b (q - (weight h + size a)) new)) (sym e) (found o.0.1 b (q - (weight h + size a)) o.3 z)))
    where
      go : (v w : Bool) → cond v (Some (Node h a b)) (cond w (subtree a (q - weight h)) (subtree b (q - (weight h + size a)))) ≡ Some old
          → (subtree a (q - weight h) ≡ Some old → Found σ (Node h a b) (Node h (replaced a (q - weight h) new) b)) → (subtree b (q - (weight h + size a)) ≡ Some old → Found σ (Node h a b) (Node h a (replaced b (q - (weight h + size a)) new)))
          → Found σ (Node h a b) (cond v new (cond w (Node h (replaced a (q - weight h) new) b) (Node h a (replaced b (q - (weight h + size a)) new))))
      go true w s k l = let i : Node h a b ≡ old = cc in here_found σ (Node h a b) new i refl (ap (is_phrase σ) (sym i) ∙ f)
      go false true s k l = k s
      go false false s k l = l s

  pub find_around : (game : Tree) (p : ℕ) → is_phrase Inputs game ≡ true → subtree game p ≡ Some old → IsAround old new game (replaced game p new)
  find_around game p f s = found Inputs game p f s
