-- What each part of the next game is there for: for a part of the game that stands at a place, with the names of its definitions, or
-- as one of several copies of a branch.
use Rattle.std.proofs.Common.{◌≡◌, ℕ, ◌==◌, ◌||◌, Bool, true, false, cond, not, List, [], ◌∷◌, map, Option, Some, None, refl, sym, ap, subst, ◌∙◌, eq-eqb, eqb-true}
use Rattle.std.proofs.lemmas.Bool.{and_parts, both_ways, or_left, or_right}
use Rattle.cv_syntax_trees.specs.declared.head.Head.{Head}
use Rattle.cv_syntax_trees.specs.declared.head.Head.TheVariants.{Binder, Branch, Call, Cons, Event, Find, If, In, Key, Leaf, Let, New, Out, Par, Read, Repl, Stop, Yield}
use Rattle.cv_syntax_trees.specs.Tree.{Tree, Empty, Node, first_place, second, second_place}
use Rattle.cv_meaning.specs.Still.{head_is_still}
use Rattle.cv_scope_rules.specs.Made.{is_bound, made_by}
use Rattle.cv_scope_rules.specs.Phrases.{Phrase, Arm as ArmPhrase, Binders, Body, Branches, Cells, Else, Guarded, Guards, Indices, Inputs, Message, Nil, Pattern, Term, Terms, Then, is_phrase, parts}
use Rattle.cv_scope_rules.specs.Sites.{Variable}
use Rattle.cv_steps.specs.Renaming.{renamed, renamed_head, renamed_name}
use Rattle.cv_steps.proofs.Flat.{AreStill, IfStill, is_of_terms, open_phrase, rows_still}
use Rattle.cv_steps_laws.proofs.Unletted.{has_names}
use Rattle.cv_edit_names.specs.Cells.{called_head, cells_in, first_unnamed, name_of, with_names}
use Rattle.cv_edit_names.specs.Naming.{Naming, name_at}
use Rattle.cv_edit_names.specs.Splitting.{Around, behind, copies_for, followed_by, in_replication, names_known, message_with_name, split_branches, split_in, with_name}
use Rattle.cv_rule_array_names.proofs.Arms.{arm_tree, copy_of}
use Rattle.cv_rule_array_names.proofs.Finds.{ArmShape, HasCopy, arm, arm_of}
use Rattle.cv_rule_array_names.proofs.Places.{is_place, place_left, place_right, site_places}
use Rattle.cv_rule_array_names.proofs.Stores.{is_name}

-- the construct doesn't define the variable
abbrev pub defines_other : (x : ℕ) → Head → Bool
defines_other x (New z T) = not (z == x)
defines_other x (Let z T) = not (z == x)
defines_other x (Binder z T) = not (z == x)
defines_other x (Key z) = not (z == x)
defines_other x (Call z l) = not (z == x)
defines_other x h = true

-- a construct of the next game for one of the game: a definition of the variable has one of the names
pub data HeadFor (x : ℕ) (ys : List ℕ) : Head → Head → Type 0 where
  same : {h : Head} → defines_other x h ≡ true → HeadFor x ys h h
  for_new : {y T : ℕ} → is_name ys y ≡ true → HeadFor x ys (New x T) (New y T)
  for_let : {y T : ℕ} → is_name ys y ≡ true → HeadFor x ys (Let x T) (Let y T)
  for_binder : {y T : ℕ} → is_name ys y ≡ true → HeadFor x ys (Binder x T) (Binder y T)
  for_leaf : {z y : ℕ} → HeadFor x ys (Leaf z) (Leaf y)
  for_read : {z y : ℕ} → HeadFor x ys (Read z) (Read y)

-- a part of the next game for one of the game that stands at a place; a definition there has the name of this place
pub data PartFor (n : Naming) : (place : ℕ) → Tree → Tree → Type 0 where
  nothing : {p : ℕ} → PartFor n p Empty Empty
  node : {p : ℕ} {h k : Head} {a b c d : Tree} → HeadFor n.variable n.names h k → (made_by h a (Variable n.variable) ≡ true → made_by k c (Variable (name_at n p)) ≡ true)
      → PartFor n (first_place p h) a c → PartFor n (second_place p h a) b d → PartFor n p (Node h a b) (Node k c d)
  again : {p : ℕ} {b c more rest : Tree} → PartFor n (first_place p Cons) b c → PartFor n p (Node Cons b more) rest → PartFor n p (Node Cons b more) (Node Cons c rest)

-- terms

still_other : (x : ℕ) (h : Head) → head_is_still h ≡ true → defines_other x h ≡ true
still_other x (New z T) e = absurd (both_ways false refl e)
still_other x (Let z T) e = absurd (both_ways false refl e)
still_other x (Binder z T) e = absurd (both_ways false refl e)
still_other x (Key z) e = absurd (both_ways false refl e)
still_other x (Call z l) e = absurd (both_ways false refl e)
still_other x h e = refl

terms_bind_none : (σ : Phrase) (h : Head) (q : Phrase × Phrase) → is_of_terms σ ≡ true → parts σ h ≡ Some q → has_names h ≡ false
terms_bind_none Inputs h q e f = absurd (both_ways false refl e)
terms_bind_none ArmPhrase h q e f = absurd (both_ways false refl e)
terms_bind_none σ (In c) q e f = absurd (cc)
terms_bind_none σ Branch q e f = absurd (cc)
terms_bind_none σ h q e f = refl

still_makes_none : (h : Head) (a : Tree) (y : ℕ) → head_is_still h ≡ true → has_names h ≡ false → made_by h a (Variable y) ≡ false
still_makes_none (New z T) a y e f = absurd (both_ways false refl e)
still_makes_none (Let z T) a y e f = absurd (both_ways false refl e)
still_makes_none (Key z) a y e f = absurd (both_ways false refl e)
still_makes_none (Call z l) a y e f = absurd (both_ways false refl e)
still_makes_none (In c) a y e f = absurd (both_ways true f refl)
still_makes_none Branch a y e f = absurd (both_ways true f refl)
still_makes_none h a y e f = refl

called_for : (x : ℕ) (ys : List ℕ) (h : Head) (o : Option ℕ) → head_is_still h ≡ true → HeadFor x ys h (called_head h o)
called_for x ys (Leaf z) (Some y) e = for_leaf
called_for x ys (Leaf z) None e = same refl
called_for x ys (Read z) (Some y) e = for_read
called_for x ys (Read z) None e = same refl
called_for x ys h o e = same (still_other x h e)

-- binders

bound_renamed : (x y : ℕ) (us : Tree) → is_bound us x ≡ true → is_bound (renamed x y us) y ≡ true
unfolding is_bound renamed
bound_renamed x y (Node (Binder z T) a b) e = go (x == z) refl (bound_renamed x y b) e
  where
    go : (v : Bool) → (x == z) ≡ v → (is_bound b x ≡ true → is_bound (renamed x y b) y ≡ true) → (v || is_bound b x) ≡ true → (y == renamed_name x y z) || is_bound (renamed x y b) y ≡ true
    go true i ih f = or_left (y == renamed_name x y z) _ (eq-eqb y (renamed_name x y z) (sym (ap (λ w. cond w y z) (eq-eqb z x (sym (eqb-true x z i))))))
    go false i ih f = or_right (y == renamed_name x y z) _ (ih f)
bound_renamed x y us e = absurd (both_ways false refl e)

message_bound : (n : Naming) (p : ℕ) (a : Tree) → is_bound (second a) n.variable ≡ true → is_bound (second (message_with_name n p a)) (name_at n p) ≡ true
unfolding is_bound
message_bound n p Empty e = absurd (both_ways false refl e)
message_bound n p (Node h i bs) e = bound_renamed n.variable (name_at n p) bs e

-- the shape of a branch

guarded_shape : (us cells d : Tree) → is_phrase Guarded d ≡ true → ArmShape (Node Branch us (Node Cons cells d))
unfolding is_phrase
guarded_shape us cells Empty f = absurd (both_ways false refl f)
guarded_shape us cells (Node Cons c body) f = arm (arm_of us cells c body)
guarded_shape us cells (Node h c body) f = absurd (both_ways false refl f)

guards_shape : (us rest : Tree) → is_phrase Guards rest ≡ true → ArmShape (Node Branch us rest)
unfolding is_phrase
guards_shape us Empty f = absurd (both_ways false refl f)
guards_shape us (Node Cons cells d) f = guarded_shape us cells d (and_parts (is_phrase Cells cells) _ f).1
guards_shape us (Node h cells d) f = absurd (both_ways false refl f)

phrase_shape : (b : Tree) → is_phrase ArmPhrase b ≡ true → ArmShape b
unfolding is_phrase
phrase_shape Empty f = absurd (both_ways false refl f)
phrase_shape (Node Branch us rest) f = guards_shape us rest (and_parts (is_phrase Binders us) _ f).1
phrase_shape (Node h us rest) f = absurd (both_ways false refl f)

module _ (n : Naming) where
  abbrev x : ℕ
  x = n.variable

  abbrev ys : List ℕ
  ys = n.names

  terms_for : (named : List (Tree × ℕ)) (p : ℕ) (σ : Phrase) (t : Tree) → is_of_terms σ ≡ true → is_phrase σ t ≡ true → PartFor n p t (with_names named t)
  unfolding with_names
  terms_for named p σ Empty e f = nothing
  terms_for named p σ (Node h a b) e f =
      let o = open_phrase σ h a b f in
      let r : AreStill h o.0 = subst (IfStill h) o.1 (rows_still σ h e) in
      node (called_for x ys h (name_of named (Node h a b)) r.still) (λ m. absurd (both_ways _ (still_makes_none h a x r.still (terms_bind_none σ h o.0 e o.1)) m))
      (terms_for named (first_place p h) o.0.0 a r.first o.2) (terms_for named (second_place p h a) o.0.1 b r.second o.3)

  -- what has no name of the variable stays
  terms_stay : (p : ℕ) (σ : Phrase) (t : Tree) → is_of_terms σ ≡ true → is_phrase σ t ≡ true → PartFor n p t t
  terms_stay p σ Empty e f = nothing
  terms_stay p σ (Node h a b) e f =
      let o = open_phrase σ h a b f in
      let r : AreStill h o.0 = subst (IfStill h) o.1 (rows_still σ h e) in
      node (same (still_other x h r.still)) (λ m. absurd (both_ways _ (still_makes_none h a x r.still (terms_bind_none σ h o.0 e o.1)) m))
      (terms_stay (first_place p h) o.0.0 a r.first o.2) (terms_stay (second_place p h a) o.0.1 b r.second o.3)

  nil_renamed : (y p : ℕ) (t : Tree) → is_phrase Nil t ≡ true → PartFor n p t (renamed x y t)
  unfolding is_phrase renamed
  nil_renamed y p Empty f = nothing
  nil_renamed y p (Node h a b) f = absurd (both_ways false refl f)

  nil_split : (e : Around) (p : ℕ) (t : Tree) → is_phrase Nil t ≡ true → PartFor n p t (split_in n e p t)
  unfolding is_phrase split_in
  nil_split e p Empty f = nothing
  nil_split e p (Node h a b) f = absurd (both_ways false refl f)

  binders_for : (y p : ℕ) (us : Tree) → is_phrase Binders us ≡ true → (is_bound us x ≡ true → is_name ys y ≡ true) → PartFor n p us (renamed x y us)
  unfolding is_phrase is_bound renamed
  binders_for y p Empty f k = nothing
  binders_for y p (Node (Binder z T) a b) f k =
      let r = and_parts (is_phrase Nil a) _ f in
      node (head (z == x) refl) (λ m. absurd (both_ways false refl m)) (nil_renamed y (first_place p (Binder z T)) a r.0)
      (binders_for y (second_place p (Binder z T) a) b r.1 (λ m. k (or_right (x == z) _ m)))
    where
      head : (v : Bool) → (z == x) ≡ v → HeadFor x ys (Binder z T) (Binder (cond v y z) T)
      head true i = subst (λ w. HeadFor x ys (Binder w T) (Binder y T)) (sym (eqb-true z x i)) (for_binder (k (or_left (x == z) _ (eq-eqb x z (sym (eqb-true z x i))))))
      head false i = same (ap not i)
  binders_for y p (Node h a b) f k = absurd (both_ways false refl f)

  pattern_for : (q p : ℕ) (a : Tree) → is_phrase Pattern a ≡ true → (is_bound (second a) x ≡ true → is_name ys (name_at n q) ≡ true) → PartFor n p a (message_with_name n q a)
  unfolding is_phrase
  pattern_for q p (Node Cons i bs) f k =
      let r = and_parts (is_phrase Indices i) _ f in
      node (same refl) (λ m. absurd (both_ways false refl m)) (terms_stay (first_place p Cons) Indices i refl r.0) (binders_for (name_at n q) (second_place p Cons i) bs r.1 k)
  pattern_for q p a f k = absurd (both_ways false refl f)

  -- each definition in the part has one of the names
  abbrev pub AreNamed : (place : ℕ) → Tree → Type 0
  AreNamed p t = (q : ℕ) → is_place (site_places x p t) q ≡ true → is_name ys (name_at n q) ≡ true

  named_here : (p : ℕ) (h : Head) (a b : Tree) → AreNamed p (Node h a b) → made_by h a (Variable x) ≡ true → is_name ys (name_at n p) ≡ true
  unfolding site_places
  named_here p h a b s m =
      s p (place_left (cond (made_by h a (Variable x)) (p ∷ []) []) _ p (ap (λ c. is_place (cond c (p ∷ []) []) p) m ∙ ap (λ c. c || false) (eq-eqb p p refl)))

  named_first : (p : ℕ) (h : Head) (a b : Tree) → AreNamed p (Node h a b) → AreNamed (first_place p h) a
  unfolding site_places
  named_first p h a b s q e = s q (place_right (cond (made_by h a (Variable x)) (p ∷ []) []) _ q (place_left (site_places x (first_place p h) a) _ q e))

  named_second : (p : ℕ) (h : Head) (a b : Tree) → AreNamed p (Node h a b) → AreNamed (second_place p h a) b
  unfolding site_places
  named_second p h a b s q e = s q (place_right (cond (made_by h a (Variable x)) (p ∷ []) []) _ q (place_right (site_places x (first_place p h) a) _ q e))

  -- a definition by `new` and by `let`

  is_renamed : (z y : ℕ) → (x == z) ≡ true → (y == renamed_name x y z) ≡ true
  is_renamed z y i = eq-eqb y (renamed_name x y z) (sym (ap (λ w. cond w y z) (eq-eqb z x (sym (eqb-true x z i)))))

  new_for : (z T y : ℕ) → ((x == z) ≡ true → is_name ys y ≡ true) → HeadFor x ys (New z T) (renamed_head x y (New z T))
  new_for z T y k = go (z == x) refl
    where
      go : (v : Bool) → (z == x) ≡ v → HeadFor x ys (New z T) (New (cond v y z) T)
      go true i = subst (λ w. HeadFor x ys (New w T) (New y T)) (sym (eqb-true z x i)) (for_new (k (eq-eqb x z (sym (eqb-true z x i)))))
      go false i = same (ap not i)

  let_for : (z T y : ℕ) → ((x == z) ≡ true → is_name ys y ≡ true) → HeadFor x ys (Let z T) (renamed_head x y (Let z T))
  let_for z T y k = go (z == x) refl
    where
      go : (v : Bool) → (z == x) ≡ v → HeadFor x ys (Let z T) (Let (cond v y z) T)
      go true i = subst (λ w. HeadFor x ys (Let w T) (Let y T)) (sym (eqb-true z x i)) (for_let (k (eq-eqb x z (sym (eqb-true z x i)))))
      go false i = same (ap not i)

  -- a copy of a branch, and of what stands in it

  abbrev guarded_split : Around → ℕ → Tree → Tree
  guarded_split d p (Node Cons c body) = Node Cons (with_names (names_known d) c) (split_in n d (second_place p Cons c) body)
  guarded_split d p t = t

  abbrev guards_split : Around → ℕ → Tree → Tree
  guards_split d p (Node Cons cells rest) = Node Cons (with_names (names_known d) cells) (guarded_split d (second_place p Cons cells) rest)
  guards_split d p t = t

  abbrev arm_split : Around → ℕ → Tree → Tree
  arm_split d p (Node Branch us rest) = Node Branch (with_name n p us) (guards_split d (second_place p Branch us) rest)
  arm_split d p t = t

  copies_for_each : (p : ℕ) (b more rest : Tree) (f : Around → Tree) → ((d : Around) → PartFor n (first_place p Cons) b (f d)) → PartFor n (second_place p Cons b) more rest
      → (d : Around) (ds : List Around) → PartFor n p (Node Cons b more) (followed_by (map f (d ∷ ds)) rest)
  copies_for_each p b more rest f each behind_it d [] = node (same refl) (λ m. absurd (both_ways false refl m)) (each d) behind_it
  copies_for_each p b more rest f each behind_it d (c ∷ ds) = again (each d) (copies_for_each p b more rest f each behind_it c ds)

  -- each list of copies has one
  module _ (some : (e : Around) (w : Option Tree) → HasCopy (copies_for n e w)) where
    branches_for : (e : Around) (p : ℕ) (b more : Tree) → ArmShape b → ((d : Around) → PartFor n (first_place p Cons) b (arm_split d (first_place p Cons) b))
        → PartFor n (second_place p Cons b) more (split_branches n e (second_place p Cons b) more) → PartFor n p (Node Cons b more) (split_branches n e p (Node Cons b more))
    unfolding split_branches
    branches_for e p _ more (arm a) each behind_it =
        let h = some (behind n (first_place p Cons) Branch a.indices e) (first_unnamed (behind n (first_place p Cons) Branch a.indices e).looked_for (cells_in x a.cells)) in
        let rest : Tree = split_branches n e (second_place p Cons (arm_tree a)) more in
        subst (λ ds. PartFor n p (Node Cons (arm_tree a) more) (followed_by (map (copy_of n (first_place p Cons) a) ds) rest)) (sym h.is)
        (copies_for_each p (arm_tree a) more rest (copy_of n (first_place p Cons) a) each behind_it h.one h.more)

    -- what stands for such phrases
    abbrev ForPhrase : Phrase → Around → (place : ℕ) → Tree → Type 0
    ForPhrase Inputs e p t = PartFor n p t (split_in n e p t)
    ForPhrase Body e p t = PartFor n p t (split_in n e p t)
    ForPhrase Then e p t = PartFor n p t (split_in n e p t)
    ForPhrase Else e p t = PartFor n p t (split_in n e p t)
    ForPhrase Branches e p t = PartFor n p t (split_branches n e p t)
    ForPhrase ArmPhrase e p t = PartFor n p t (arm_split e p t)
    ForPhrase Guards e p t = PartFor n p t (guards_split e p t)
    ForPhrase Guarded e p t = PartFor n p t (guarded_split e p t)
    ForPhrase σ e p t = Unit {0}

    for_phrase : (σ : Phrase) (e : Around) (p : ℕ) (t : Tree) → is_phrase σ t ≡ true → AreNamed p t → ForPhrase σ e p t
    unfolding is_phrase split_in split_branches
    for_phrase Inputs e p (Node Stop a b) f s =
        let q = and_parts (is_phrase Nil a) _ f in node (same refl) (λ m. absurd (both_ways false refl m)) (terms_for (names_known e) (first_place p Stop) Nil a refl q.0) (nil_split e (second_place p Stop a) b q.1)
    for_phrase Inputs e p (Node Par a b) f s =
        let q = and_parts (is_phrase Inputs a) _ f in
        node (same refl) (λ m. absurd (both_ways false refl m)) (for_phrase Inputs e (first_place p Par) a q.0 (named_first p Par a b s)) (for_phrase Inputs e (second_place p Par a) b q.1 (named_second p Par a b s))
    for_phrase Inputs e p (Node (Repl i k) a b) f s =
        let q = and_parts (is_phrase Nil a) _ f in
        node (same refl) (λ m. absurd (both_ways false refl m)) (terms_stay (first_place p (Repl i k)) Nil a refl q.0) (for_phrase Inputs (in_replication (Repl i k) e) (second_place p (Repl i k) a) b q.1 (named_second p (Repl i k) a b s))
    for_phrase Inputs e p (Node (In c) a b) f s =
        let q = and_parts (is_phrase Pattern a) _ f in
        node (same refl) (λ m. message_bound n p a m) (pattern_for p (first_place p (In c)) a q.0 (λ m. named_here p (In c) a b s m))
        (for_phrase Body (behind n p (In c) a e) (second_place p (In c) a) b q.1 (named_second p (In c) a b s))
    for_phrase Inputs e p t f s = absurd (both_ways false refl f)
    for_phrase Body e p (Node Yield a b) f s =
        let q = and_parts (is_phrase Nil a) _ f in node (same refl) (λ m. absurd (both_ways false refl m)) (terms_for (names_known e) (first_place p Yield) Nil a refl q.0) (nil_split e (second_place p Yield a) b q.1)
    for_phrase Body e p (Node (Out c) a b) f s =
        let q = and_parts (is_phrase Message a) _ f in
        node (same refl) (λ m. absurd (both_ways false refl m)) (terms_for (names_known e) (first_place p (Out c)) Message a refl q.0) (for_phrase Inputs e (second_place p (Out c) a) b q.1 (named_second p (Out c) a b s))
    for_phrase Body e p (Node (New z T) a b) f s =
        let q = and_parts (is_phrase Nil a) _ f in
        node (new_for z T (name_at n p) (λ m. named_here p (New z T) a b s m)) (λ m. is_renamed z (name_at n p) m) (terms_for (names_known e) (first_place p (New z T)) Nil a refl q.0)
        (for_phrase Body (behind n p (New z T) a e) (second_place p (New z T) a) b q.1 (named_second p (New z T) a b s))
    for_phrase Body e p (Node (Let z T) a b) f s =
        let q = and_parts (is_phrase Term a) _ f in
        node (let_for z T (name_at n p) (λ m. named_here p (Let z T) a b s m)) (λ m. is_renamed z (name_at n p) m) (terms_for (names_known e) (first_place p (Let z T)) Term a refl q.0)
        (for_phrase Body (behind n p (Let z T) a e) (second_place p (Let z T) a) b q.1 (named_second p (Let z T) a b s))
    for_phrase Body e p (Node (Event c) a b) f s =
        let q = and_parts (is_phrase Terms a) _ f in
        node (same refl) (λ m. absurd (both_ways false refl m)) (terms_for (names_known e) (first_place p (Event c)) Terms a refl q.0) (for_phrase Body e (second_place p (Event c) a) b q.1 (named_second p (Event c) a b s))
    for_phrase Body e p (Node If a b) f s =
        let q = and_parts (is_phrase Term a) _ f in
        node (same refl) (λ m. absurd (both_ways false refl m)) (terms_for (names_known e) (first_place p If) Term a refl q.0) (for_phrase Then e (second_place p If a) b q.1 (named_second p If a b s))
    for_phrase Body e p (Node (Find l) a b) f s =
        let q = and_parts (is_phrase Branches a) _ f in
        node (same refl) (λ m. absurd (both_ways false refl m)) (for_phrase Branches e (first_place p (Find l)) a q.0 (named_first p (Find l) a b s)) (for_phrase Body e (second_place p (Find l) a) b q.1 (named_second p (Find l) a b s))
    for_phrase Body e p t f s = absurd (both_ways false refl f)
    for_phrase Then e p (Node Cons a b) f s =
        let q = and_parts (is_phrase Body a) _ f in
        node (same refl) (λ m. absurd (both_ways false refl m)) (for_phrase Body e (first_place p Cons) a q.0 (named_first p Cons a b s)) (for_phrase Else e (second_place p Cons a) b q.1 (named_second p Cons a b s))
    for_phrase Then e p t f s = absurd (both_ways false refl f)
    for_phrase Else e p (Node Cons a b) f s =
        let q = and_parts (is_phrase Body a) _ f in
        node (same refl) (λ m. absurd (both_ways false refl m)) (for_phrase Body e (first_place p Cons) a q.0 (named_first p Cons a b s)) (nil_split e (second_place p Cons a) b q.1)
    for_phrase Else e p t f s = absurd (both_ways false refl f)
    for_phrase Branches e p Empty f s = nothing
    for_phrase Branches e p (Node Cons b more) f s =
        let q = and_parts (is_phrase ArmPhrase b) _ f in
        branches_for e p b more (phrase_shape b q.0) (λ d. for_phrase ArmPhrase d (first_place p Cons) b q.0 (named_first p Cons b more s)) (for_phrase Branches e (second_place p Cons b) more q.1 (named_second p Cons b more s))
    for_phrase Branches e p t f s = absurd (both_ways false refl f)
    for_phrase ArmPhrase e p (Node Branch us rest) f s =
        let q = and_parts (is_phrase Binders us) _ f in
        node (same refl) (λ m. bound_renamed x (name_at n p) us m) (binders_for (name_at n p) (first_place p Branch) us q.0 (λ m. named_here p Branch us rest s m))
        (for_phrase Guards e (second_place p Branch us) rest q.1 (named_second p Branch us rest s))
    for_phrase ArmPhrase e p t f s = absurd (both_ways false refl f)
    for_phrase Guards e p (Node Cons cells rest) f s =
        let q = and_parts (is_phrase Cells cells) _ f in
        node (same refl) (λ m. absurd (both_ways false refl m)) (terms_for (names_known e) (first_place p Cons) Cells cells refl q.0) (for_phrase Guarded e (second_place p Cons cells) rest q.1 (named_second p Cons cells rest s))
    for_phrase Guards e p t f s = absurd (both_ways false refl f)
    for_phrase Guarded e p (Node Cons c body) f s =
        let q = and_parts (is_phrase Term c) _ f in
        node (same refl) (λ m. absurd (both_ways false refl m)) (terms_for (names_known e) (first_place p Cons) Term c refl q.0) (for_phrase Body e (second_place p Cons c) body q.1 (named_second p Cons c body s))
    for_phrase Guarded e p t f s = absurd (both_ways false refl f)
    for_phrase σ e p t f s = tt

    pub part_for : (e : Around) (p : ℕ) (t : Tree) → is_phrase Inputs t ≡ true → AreNamed p t → PartFor n p t (split_in n e p t)
    part_for e p t f s = for_phrase Inputs e p t f s
