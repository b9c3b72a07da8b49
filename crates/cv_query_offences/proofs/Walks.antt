-- Walks over a game that look for a first place.
use Rattle.std.proofs.Common.{◌≡◌, ℕ, Bool, true, false, cond, ◌&&◌, ◌||◌, not, List, [], ◌∷◌, Option, Some, None, is_some, refl, sym, ap, ap₂, ◌∙◌}
use Rattle.std.specs.List.{list_any}
use Rattle.cv_syntax_trees.specs.lists.Options.{first_of}
use Rattle.cv_syntax_trees.specs.declared.head.Head.{Head}
use Rattle.cv_syntax_trees.specs.declared.head.Head.TheVariants.{Leaf, New, Read}
use Rattle.cv_syntax_trees.specs.Tree.{Tree, Empty, Node, first_place, second_place}
use Rattle.cv_scope_rules.specs.declared.position.Position.{Position}
use Rattle.cv_scope_rules.specs.Context.{first_position, second_position}
use Rattle.cv_scope_rules.specs.Made.{made_by}
use Rattle.cv_scope_rules.specs.Sites.{Variable}
use Rattle.cv_scene.specs.Scenes.{Scene, has_some_new, head_reads, is_new_head, is_queried}
use Rattle.cv_query_certificates.specs.Secrets.{first_definition_but, first_other_read, is_cell, is_choice_of, is_let_of, is_none_of_them, is_source, reads_value}
use Rattle.cv_syntax_trees.proofs.lists.Options.{first_of_none}

-- the place is here, in the first child, or not yet found

pub found_first : {A : Type 0} (v o q : Option A) (p r : A) (b c : Bool) → v ≡ cond c (Some p) (first_of o q) → b ≡ c → b ≡ false → o ≡ Some r → v ≡ Some r
found_first v o q p r b true e f g h = absurd (cc)
found_first v o q p r b false e f g h = e ∙ ap (λ s. first_of s q) h

pub found_rest : {A : Type 0} (v o q : Option A) (p : A) (b c : Bool) → v ≡ cond c (Some p) (first_of o q) → b ≡ c → b ≡ false → o ≡ None → v ≡ q
found_rest v o q p b true e f g h = absurd (cc)
found_rest v o q p b false e f g h = e ∙ ap (λ s. first_of s q) h

-- definitions

module _ (f : Head → Tree → Bool) (x p : ℕ) (t : Tree) where
  pub definition_node : (h : Head) (a b : Tree) → t ≡ Node h a b → first_definition_but f x p t ≡ cond (made_by h a (Variable x) && not (f h a)) (Some p) (first_of (first_definition_but f x (first_place p h) a) (first_definition_but f x (second_place p h a) b))
  unfolding first_definition_but
  definition_node h a b e = ap (first_definition_but f x p) e

  pub definition_end : t ≡ Empty → first_definition_but f x p t ≡ None
  unfolding first_definition_but
  definition_end e = ap (first_definition_but f x p) e

-- reads

pub read_same : (x : ℕ) (ys : List ℕ) (b c : Bool) (v w : Position) (p q : ℕ) (t : Tree) → b ≡ c → v ≡ w → p ≡ q → first_other_read x ys b v p t ≡ first_other_read x ys c w q t
read_same x ys b c v w p q t e f g = ap₂ (λ k u. first_other_read x ys k u p t) e f ∙ ap (λ n. first_other_read x ys c w n t) g

module _ (x : ℕ) (ys : List ℕ) (free : Bool) (w : Position) (p : ℕ) (t : Tree) where
  pub read_node : (h : Head) (a b : Tree) → t ≡ Node h a b → first_other_read x ys free w p t
      ≡ cond (not free && list_any (λ y. reads_value y w h) ys) (Some p) (first_of (first_other_read x ys (is_let_of x h) (first_position w h) (first_place p h) a) (first_other_read x ys false (second_position w h) (second_place p h a) b))
  unfolding first_other_read
  read_node h a b e = ap (first_other_read x ys free w p) e

  pub read_end : t ≡ Empty → first_other_read x ys free w p t ≡ None
  unfolding first_other_read
  read_end e = ap (first_other_read x ys free w p) e

module _ (w : Position) (h : Head) (ys : List ℕ) where
  none_read : (zs : List ℕ) → ((y : ℕ) → reads_value y w h ≡ false) → false ≡ list_any (λ y. reads_value y w h) zs
  none_read [] f = refl
  none_read (y ∷ zs) f = none_read zs f ∙ ap (λ b. b || list_any (λ z. reads_value z w h) zs) (sym (f y))

  pub cell_unread : (b : Bool) → b ≡ is_cell w → b ≡ true → false ≡ list_any (λ y. reads_value y w h) ys
  cell_unread b e f = none_read ys (λ y. ap (λ c. not c && head_reads y h) (sym e ∙ f))

  other_head : ((y : ℕ) → h ≡ Leaf y → ⊥) → ((y : ℕ) → h ≡ Read y → ⊥) → (y : ℕ) → head_reads y h ≡ false
  other_head m n y = go h m n
    where
      go : (k : Head) → ((y : ℕ) → k ≡ Leaf y → ⊥) → ((y : ℕ) → k ≡ Read y → ⊥) → head_reads y k ≡ false
      go (Leaf z) m n = absurd (m z refl)
      go (Read z) m n = absurd (n z refl)
      go k m n = refl

  nothing_both : (b : Bool) → (b && false) ≡ false
  nothing_both true = refl
  nothing_both false = refl

  pub other_unread : ((y : ℕ) → h ≡ Leaf y → ⊥) → ((y : ℕ) → h ≡ Read y → ⊥) → false ≡ list_any (λ y. reads_value y w h) ys
  other_unread m n = none_read ys (λ y. ap (λ b. not (is_cell w) && b) (other_head m n y) ∙ nothing_both (not (is_cell w)))

-- where no definition of a variable is other than a choice of a type, it is chosen where it has a definition

choice_new : (T : ℕ) (h : Head) (a : Tree) → is_choice_of T h a ≡ true → is_new_head h ≡ true
choice_new T (New y U) a e = refl
choice_new T h a e = absurd (let z : false ≡ true = e in cc)

either : (r s : Option ℕ) (k l : Bool) → is_some r ≡ k → is_some s ≡ l → is_some (first_of r s) ≡ (k || l)
either None s k l g i = i ∙ ap (λ b. b || l) g
either (Some x) s k l g i = ap (λ b. b || l) g

-- here, and in both children
alike : (m c n : Bool) (p : ℕ) (o r s : Option ℕ) (k l : Bool) → (c ≡ true → n ≡ true) → cond (m && not c) (Some p) o ≡ None → is_some r ≡ k → is_some s ≡ l → is_some (cond (m && true) (Some p) (first_of r s)) ≡ ((n && m) || (k || l))
alike false c true p o r s k l f e g i = either r s k l g i
alike false c false p o r s k l f e g i = either r s k l g i
alike true false n p o r s k l f e g i = absurd (let z : ◌≡◌ {A = Option ℕ} (Some p) None = e in cc)
alike true true n p o r s k l f e g i = sym (ap (λ b. (b && true) || (k || l)) (f refl))

within_none : (b : Bool) (p : ℕ) (o : Option ℕ) → cond b (Some p) o ≡ None → o ≡ None
within_none true p o e = absurd (let z : ◌≡◌ {A = Option ℕ} (Some p) None = e in cc)
within_none false p o e = e

defined_chosen : (T y p : ℕ) (t : Tree) → first_definition_but (is_choice_of T) y p t ≡ None → is_some (first_definition_but is_none_of_them y p t) ≡ has_some_new y t
unfolding first_definition_but has_some_new
defined_chosen T y p Empty e = refl
defined_chosen T y p (Node h a b) e =
    let f = first_definition_but (is_choice_of T) y in
    let m = made_by h a (Variable y) in
    let c = is_choice_of T h a in
    let o = first_of (f (first_place p h) a) (f (second_place p h a) b) in
    let k = first_of_none (f (first_place p h) a) (f (second_place p h a) b) (within_none (m && not c) p o e) in
    alike m c (is_new_head h) p o _ _ _ _ (choice_new T h a) e (defined_chosen T y (first_place p h) a k.0) (defined_chosen T y (second_place p h a) b k.1)

other_choice : (n q : Bool) (f o : Option ℕ) (b : Bool) → f ≡ o → b ≡ is_some f → b ≡ true → false ≡ (n && (not (is_some o) && q))
other_choice false q f o b e g h = refl
other_choice true q f o b e g h = sym (ap (λ c. not c && q) (sym (ap is_some e) ∙ (sym g ∙ h)))

no_choice : (f : Option ℕ) (b : Bool) → b ≡ is_some f → b ≡ false → f ≡ None
no_choice None b e g = refl
no_choice (Some x) b e g = absurd (let z : true ≡ false = sym e ∙ g in cc)

module _ (s : Scene) (T y : ℕ) (other : Option ℕ) (i : other ≡ first_definition_but (is_choice_of T) y 0 s.game) (b : Bool) (g : b ≡ is_some other) where
  pub not_source : b ≡ true → false ≡ is_source s T (Some y)
  not_source h = other_choice (has_some_new y s.game) (not (is_queried s y)) other (first_definition_but (is_choice_of T) y 0 s.game) b i g h

  pub source_by : (any : Option ℕ) (d v : Bool) → b ≡ false → any ≡ first_definition_but is_none_of_them y 0 s.game → d ≡ is_some any → v ≡ (d && not (is_queried s y)) → v ≡ is_source s T (Some y)
  source_by any d v h j k l =
      let none = sym i ∙ no_choice other b g h in
      l ∙ (ap (λ c. c && not (is_queried s y)) (k ∙ (ap is_some j ∙ defined_chosen T y 0 s.game none)) ∙ ap (λ o. has_some_new y s.game && (not (is_some o) && not (is_queried s y))) (sym none))
