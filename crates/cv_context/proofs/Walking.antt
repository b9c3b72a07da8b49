-- A walk over a game that makes its context, node by node.
use Rattle.std.proofs.Common.{◌≡◌, ℕ, zero, suc, ◌<◌, ◌≤◌, Bool, true, false, cond, ◌==◌, List, [], ◌∷◌, ◌++◌, length, take, refl, sym, ap, ap₂, ◌∙◌, append-nil, append_assoc, arith}
use Rattle.std.proofs.lemmas.Bool.{both_ways, and_parts}
use Rattle.std.proofs.lemmas.List.{length-take, take-append-le}
use Rattle.std.specs.Prelude.{slice_get}
use Rattle.cv_pool.specs.KindTree.{KindTree}
use Rattle.cv_syntax_trees.specs.declared.head.Head.{Head}
use Rattle.cv_syntax_trees.specs.declared.head.Head.TheVariants.{Key, New, Repl}
use Rattle.cv_syntax_trees.specs.declared.head.Head.TheVariants.{Call as CallHead}
use Rattle.cv_syntax.specs.declared.make.Make.{Make}
use Rattle.cv_syntax.specs.declared.make.Make.TheVariants.{Nothing, Over}
use Rattle.cv_syntax_trees.specs.Head.{weight}
use Rattle.cv_syntax.specs.NameSets.{is_in}
use Rattle.cv_syntax.specs.Postorder.{postorder}
use Rattle.cv_syntax_trees.specs.Tree.{Tree, Empty, Node, first_place, second_place}
use Rattle.cv_scope_rules.specs.declared.position.Position.{Position}
use Rattle.cv_scope_rules.specs.Context.{cell_of, first_position, replications_below, second_position}
use Rattle.cv_scene.specs.Sites.{is_guard}
use Rattle.cv_syntax.specs.parts.Closing.{closing}
use Rattle.cv_context.specs.nodes.Calls.{terms_of}
use Rattle.cv_context.specs.nodes.Written.{answer_in, calls_here, first_parts, heads_in, heads_of_calls, terms_of_calls}
use Rattle.cv_context.specs.declared.nodes.calls.Call.{Call}
use Rattle.cv_context.specs.declared.nodes.roles.Roles.{Roles}
use Rattle.cv_context.specs.Written.{Part, before, is_place, is_site, joined, node_in, part_at, part_unless}

-- parts of calls, and of a node

closing_append : (hs ks : List Head) → closing (hs ++ ks) ≡ closing ks ++ closing hs
closing_append [] ks = sym (append-nil (closing ks))
closing_append (h ∷ hs) ks = ap (λ l. l ++ Over h ∷ []) (closing_append hs ks) ∙ append_assoc (closing ks) (closing hs) (Over h ∷ [])

before_parts : (trees : List KindTree) (r : Roles) (s : ℕ) (cs : List Call) (t : Tree) → postorder (before trees r s cs t) ≡ terms_of_calls trees cs ++ (postorder t ++ closing (heads_of_calls r s cs))
unfolding postorder
before_parts trees r s [] t = sym (append-nil (postorder t))
before_parts trees r s (c ∷ cs) t =
    let q : List Make = postorder (terms_of trees c) in
    let e : List Make = Over (CallHead (answer_in r s) s) ∷ [] in
    let T : List Make = terms_of_calls trees cs in
    let C : List Make = closing (heads_of_calls r (suc s) cs) in
    ap (λ l. q ++ (l ++ e)) (before_parts trees r (suc s) cs t)
    ∙ ap (λ l. q ++ l) (append_assoc T (postorder t ++ C) e ∙ ap (λ l. T ++ l) (append_assoc (postorder t) C e))
    ∙ sym (append_assoc q T (postorder t ++ (C ++ e)))

node_parts : (r : Roles) (h : Head) (a b : Tree) → postorder (node_in r h a b) ≡ first_parts r h (postorder a) ++ (postorder b ++ closing (heads_in r h))
unfolding postorder
node_parts r (New y T) a b = go (y == r.key) (is_in r.coins y)
  where
    go : (k c : Bool) → postorder (cond k (Node (Key y) Empty b) (cond c b (Node (New y T) a b)))
        ≡ cond k (Nothing ∷ []) (cond c [] (postorder a)) ++ (postorder b ++ closing (cond k (Key y ∷ []) (cond c [] (New y T ∷ []))))
    go true c = refl
    go false true = sym (append-nil (postorder b))
    go false false = refl
node_parts r h a b = refl

whole_parts : (trees : List KindTree) (r : Roles) (s : ℕ) (cs : List Call) (h : Head) (a b : Tree) (hs : List Head)
    → postorder (before trees r s cs (node_in r h a b)) ++ closing hs
    ≡ (terms_of_calls trees cs ++ first_parts r h (postorder a)) ++ (postorder b ++ closing (hs ++ (heads_of_calls r s cs ++ heads_in r h)))
whole_parts trees r s cs h a b hs =
    let T : List Make = terms_of_calls trees cs in
    let F : List Make = first_parts r h (postorder a) in
    let B : List Make = postorder b in
    let C : List Make = closing (heads_of_calls r s cs) in
    let N : List Make = closing (heads_in r h) in
    let H : List Make = closing hs in
    ap (λ l. l ++ H) (before_parts trees r s cs (node_in r h a b) ∙ ap (λ l. T ++ (l ++ C)) (node_parts r h a b))
    ∙ append_assoc T ((F ++ (B ++ N)) ++ C) H
    ∙ ap (λ l. T ++ l) (append_assoc (F ++ (B ++ N)) C H ∙ append_assoc F (B ++ N) (C ++ H) ∙ ap (λ l. F ++ l) (append_assoc B N (C ++ H)))
    ∙ sym (append_assoc T F (B ++ (N ++ (C ++ H))))
    ∙ ap (λ l. (T ++ F) ++ (B ++ l)) (sym (append_assoc N C H) ∙ ap (λ l. l ++ H) (sym (closing_append (heads_of_calls r s cs) (heads_in r h))) ∙ sym (closing_append hs (heads_of_calls r s cs ++ heads_in r h)))

module _ (trees : List KindTree) (r : Roles) (ss : List Call) where
  abbrev At : Position → List (ℕ × ℕ) → ℕ → ℕ → Tree → Part
  At w rs s p t = part_at trees r ss w rs s p t

  abbrev Unless : Bool → Position → List (ℕ × ℕ) → ℕ → ℕ → Tree → Part
  Unless skip w rs s p t = part_unless skip trees r ss w rs s p t

  pub skipped : (skip : Bool) (w : Position) (rs : List (ℕ × ℕ)) (s p : ℕ) (t : Tree) → skip ≡ true → Unless skip w rs s p t ≡ record { tree = t; next = s }
  unfolding part_unless
  skipped true w rs s p t e = refl
  skipped false w rs s p t e = absurd (cc)

  pub whole : (skip : Bool) (w : Position) (rs : List (ℕ × ℕ)) (s p : ℕ) (t : Tree) → skip ≡ false → Unless skip w rs s p t ≡ At w rs s p t
  unfolding part_unless
  whole true w rs s p t e = absurd (cc)
  whole false w rs s p t e = refl

  pub at_end : (w : Position) (rs : List (ℕ × ℕ)) (s p : ℕ) (t : Tree) → t ≡ Empty → At w rs s p t ≡ record { tree = Empty; next = s }
  unfolding part_at
  at_end w rs s p t e = ap (At w rs s p) e

  pub at_site : (w : Position) (rs : List (ℕ × ℕ)) (s p : ℕ) (t : Tree) (h : Head) (a b : Tree) → t ≡ Node h a b → (c : Bool) → c ≡ is_site ss s p h → c ≡ true → At w rs s p t ≡ record { tree = cell_of rs (answer_in r s); next = suc s }
  unfolding part_at
  at_site w rs s p t h a b e c f g =
      ap (At w rs s p) e ∙ ap (λ z. cond z (let x : Part = record { tree = cell_of rs (answer_in r s); next = suc s } in x) (joined trees r ss h s (cond (is_guard w) (record { tree = a; next = s }) (At (first_position w h) rs s (first_place p h) a)) (λ n. At (second_position w h) (replications_below h rs) n (second_place p h a) b))) (sym f ∙ g)

  pub at_node : (w : Position) (rs : List (ℕ × ℕ)) (s p : ℕ) (t : Tree) (h : Head) (a b : Tree) → t ≡ Node h a b → (c : Bool) → c ≡ is_site ss s p h → c ≡ false
      → At w rs s p t ≡ joined trees r ss h s (Unless (is_guard w) (first_position w h) rs s (first_place p h) a) (λ n. At (second_position w h) (replications_below h rs) n (second_place p h a) b)
  unfolding part_at part_unless
  at_node w rs s p t h a b e c f g =
      ap (At w rs s p) e ∙ ap (λ z. cond z (let x : Part = record { tree = cell_of rs (answer_in r s); next = suc s } in x) (joined trees r ss h s (cond (is_guard w) (record { tree = a; next = s }) (At (first_position w h) rs s (first_place p h) a)) (λ n. At (second_position w h) (replications_below h rs) n (second_place p h a) b))) (sym f ∙ g)

  moved : (i j : Bool) (v w : Position) (rs qs : List (ℕ × ℕ)) (s n p q : ℕ) (t : Tree) → i ≡ j → v ≡ w → rs ≡ qs → s ≡ n → p ≡ q → Unless i v rs s p t ≡ Unless j w qs n q t
  moved i j v w rs qs s n p q t a b c d e = λ z. Unless (a z) (b z) (c z) (d z) (e z) t

  moved_at : (v w : Position) (rs qs : List (ℕ × ℕ)) (p q s : ℕ) (t : Tree) → v ≡ w → rs ≡ qs → p ≡ q → At v rs s p t ≡ At w qs s q t
  moved_at v w rs qs p q s t b c e = λ z. At (b z) (c z) s (e z) t

  -- one node: what its first child makes, and where the walk goes on
  module _ (w : Position) (rs : List (ℕ × ℕ)) (s p : ℕ) (t : Tree) (h : Head) (a b : Tree) (here : t ≡ Node h a b) (c : Bool) (site : c ≡ is_site ss s p h) (none : c ≡ false) where
    module _ (skip : Bool) (v : Position) (q : ℕ) (is : skip ≡ is_guard w) (iv : v ≡ first_position w h) (iq : q ≡ first_place p h) where
      X : Part
      X = Unless skip v rs s q a

      same_first : X ≡ Unless (is_guard w) (first_position w h) rs s (first_place p h) a
      unfolding X
      same_first = moved skip (is_guard w) v (first_position w h) rs rs s s q (first_place p h) a is iv refl refl iq

      module _ (n : ℕ) (next : n ≡ (Unless skip v rs s q a).next) (u : Position) (xs : List (ℕ × ℕ)) (m : ℕ) (iu : u ≡ second_position w h) (ix : xs ≡ replications_below h rs) (im : m ≡ second_place p h a) where
        node_there : At w rs s p t ≡ record { tree = before trees r s (calls_here ss h s n) (node_in r h (Unless skip v rs s q a).tree (At u xs n m b).tree); next = (At u xs n m b).next }
        unfolding X
        node_there =
            at_node w rs s p t h a b here c site none
            ∙ ap (λ x. joined trees r ss h s x (λ k. At (second_position w h) (replications_below h rs) k (second_place p h a) b)) (sym same_first)
            ∙ (λ z. record {
              tree = before trees r s (calls_here ss h s (sym next z)) (node_in r h (Unless skip v rs s q a).tree (At (sym iu z) (sym ix z) (sym next z) (sym im z) b).tree);
              next = (At (sym iu z) (sym ix z) (sym next z) (sym im z) b).next;
            })

        pub node_next : (At u xs n m b).next ≡ (At w rs s p t).next
        node_next = sym (ap (λ (x : Part). x.next) node_there)

        pub node_goes : (out all inner new : List Make) (hs ks : List Head) → out ++ (postorder (At w rs s p t).tree ++ closing hs) ≡ all → inner ≡ postorder (Unless skip v rs s q a).tree
            → new ≡ out ++ (terms_of_calls trees (calls_here ss h s n) ++ first_parts r h inner) → ks ≡ hs ++ (heads_of_calls r s (calls_here ss h s n) ++ heads_in r h)
            → new ++ (postorder (At u xs n m b).tree ++ closing ks) ≡ all
        node_goes out all inner new hs ks e i j k =
            let cs : List Call = calls_here ss h s n in
            let A : Tree = (Unless skip v rs s q a).tree in
            let B : Tree = (At u xs n m b).tree in
            ap₂ (λ x y. x ++ (postorder B ++ closing y)) (j ∙ ap (λ x. out ++ (terms_of_calls trees cs ++ first_parts r h x)) i) k
            ∙ append_assoc out (terms_of_calls trees cs ++ first_parts r h (postorder A)) (postorder B ++ closing (hs ++ (heads_of_calls r s cs ++ heads_in r h)))
            ∙ ap (λ x. out ++ x) (sym (whole_parts trees r s cs h A B hs))
            ∙ ap (λ (x : Part). out ++ (postorder x.tree ++ closing hs)) (sym node_there)
            ∙ e

-- a site, the end, and the replications behind a walk

pub site_there : (ss : List Call) (s p : ℕ) (h : Head) (c : Bool) → c ≡ is_site ss s p h → c ≡ true → s < length ss
site_there ss s p h c e f = go ss s (and_parts (weight h == 1) (is_place p (slice_get ss s)) (sym e ∙ f)).1
  where
    go : (xs : List Call) (k : ℕ) → is_place p (slice_get xs k) ≡ true → k < length xs
    go [] k g = absurd (both_ways false refl g)
    go (x ∷ xs) zero g = omega arith
    go (x ∷ xs) (suc k) g = omega (arith, go xs k g)

pub site_made : (out cells new all : List Make) (hs : List Head) (x y : Part) → x ≡ y → cells ≡ out ++ postorder y.tree → new ≡ cells ++ closing hs → out ++ (postorder x.tree ++ closing hs) ≡ all → new ≡ all
site_made out cells new all hs x y e f g i =
    g ∙ ap (λ l. l ++ closing hs) f ∙ append_assoc out (postorder y.tree) (closing hs) ∙ ap (λ (z : Part). out ++ (postorder z.tree ++ closing hs)) (sym e) ∙ i

postorder_empty : postorder Empty ≡ Nothing ∷ []
unfolding postorder
postorder_empty = refl

pub ends_made : (trees : List KindTree) (r : Roles) (ss : List Call) (w : Position) (rs : List (ℕ × ℕ)) (s p : ℕ) (t : Tree) → t ≡ Empty → (out more new all : List Make) (hs : List Head) → more ≡ out ++ Nothing ∷ [] → new ≡ more ++ closing hs
    → out ++ (postorder (part_at trees r ss w rs s p t).tree ++ closing hs) ≡ all → new ≡ all
ends_made trees r ss w rs s p t e out more new all hs f g i =
    site_made out more new all hs (part_at trees r ss w rs s p t) (record { tree = Empty; next = s }) (at_end trees r ss w rs s p t e) (f ∙ ap (λ l. out ++ l) (sym postorder_empty)) g i
