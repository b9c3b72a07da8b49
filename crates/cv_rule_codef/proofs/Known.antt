-- What is known behind the only site of a variable: a cell of a variable whose definition is the same construct, or stands directly above.
-- So that one is assigned wherever the variable is.
use Rattle.std.proofs.Common.{◌≡◌, ℕ, ◌&&◌, ◌||◌, ◌==◌, Bool, true, false, cond, not, List, [], ◌∷◌, ◌++◌, inl, inr, is_some, refl, sym, ap, ap₂, subst, ◌∙◌, eqb-true, eq-eqb}
use Rattle.std.proofs.lemmas.Bool.{both_ways, and_parts, not-true}
use Rattle.std.specs.List.{AllByRecursion}
use Rattle.cv_syntax_trees.specs.declared.head.Head.{Head}
use Rattle.cv_syntax_trees.specs.declared.head.Head.TheVariants.{Binder, Branch, Call, Cons, In, Key, Let, New, Repl}
use Rattle.cv_syntax_trees.specs.Tree.{Tree, Empty, Node, first_place, second, second_place}
use Rattle.cv_meaning.specs.Candidates.{is_assigned}
use Rattle.cv_meaning.specs.Interpretation.{Setting}
use Rattle.cv_meaning.specs.Memory.{Happened, Indices, Store, tuple}
use Rattle.cv_meaning.specs.Terms.{leaf_value, leaf_value_from, value, values}
use Rattle.cv_scope_rules.specs.declared.position.Position.{Position}
use Rattle.cv_scope_rules.specs.declared.position.Position.TheVariants as position
use Rattle.cv_scope_rules.specs.declared.position.Position.TheVariants.{Anywhere, Guarded, Guards}
use Rattle.cv_scope_rules.specs.Context.{Context, cell_of, cells_of, first_context, first_position, index_terms, items, nothing_known, second_context, second_position}
use Rattle.cv_scope_rules.specs.Made.{is_bound, made_by}
use Rattle.cv_scope_rules.specs.Phrases as phrase
use Rattle.cv_scope_rules.specs.Phrases.{Arm, Binders, Cells, Inputs, Phrase, is_phrase}
use Rattle.cv_scope_rules.specs.Rules.{IsAmong}
use Rattle.cv_scope_rules.specs.Sites.{Variable}
use Rattle.cv_scope_runs.specs.Promises.{AreIndicesOf, IsDefinition, after_site, definitions_in, definitions_of, in_body, in_condition, in_list}
use Rattle.cv_scope_runs.proofs.Contexts.{CellHolds, IsFound, Matches}
use Rattle.cv_scope_runs.proofs.Games.{Game}
use Rattle.cv_scope_runs.proofs.PathRuns.{SiteHolds, StoreHolds}
use Rattle.cv_scope_runs.proofs.Standing.{more_left, more_right, stands_definition}
use Rattle.cv_scope_runs.proofs.TermsLater.{some_of}
use Rattle.cv_steps.proofs.Flat.{open_phrase}
use Rattle.cv_rule_codef.specs.Adjacent.{are_joined, begins_with, defines_both, following, is_defined_below, is_replication, sites, stands_above}
use Rattle.cv_rule_codef.proofs.Sites.{only_definition}

among_left : (t : Tree) (xs ys : List Tree) → IsAmong t xs → IsAmong t (xs ++ ys)
among_left t [] ys i = absurd i
among_left t (x ∷ xs) ys (inl e) = inl e
among_left t (x ∷ xs) ys (inr i) = inr (among_left t xs ys i)

among_right : (t : Tree) (xs ys : List Tree) → IsAmong t ys → IsAmong t (xs ++ ys)
among_right t [] ys i = i
among_right t (x ∷ xs) ys i = inr (among_right t xs ys i)

among_each : (P : Tree → Type 0) (t : Tree) (xs : List Tree) → IsAmong t xs → AllByRecursion P xs → P t
among_each P t [] i a = absurd i
among_each P t (x ∷ xs) (inl e) a = subst P (sym e) a.0
among_each P t (x ∷ xs) (inr i) a = among_each P t xs i a.1

swapped : (x y : ℕ) → (x == y) ≡ true → (y == x) ≡ true
swapped x y e = eq-eqb y x (sym (eqb-true x y e))

module _ (y x : ℕ) where
  -- the first variable's cell is known there
  abbrev HasCell : Context → Type 0
  HasCell Γ = IsAmong (cell_of Γ.replications y) Γ.cells

  -- behind a definition of it

  bound_cell : (rs : List (ℕ × ℕ)) (bs : Tree) → is_bound bs y ≡ true → IsAmong (cell_of rs y) (cells_of rs bs)
  unfolding is_bound
  bound_cell rs (Node (Binder z T) a b) e = go (y == z) refl e (bound_cell rs b)
    where
      go : (v : Bool) → (y == z) ≡ v → (v || is_bound b y) ≡ true → (is_bound b y ≡ true → IsAmong (cell_of rs y) (cells_of rs b)) → IsAmong (cell_of rs y) (cell_of rs z ∷ cells_of rs b)
      go true f e k = inl (ap (cell_of rs) (eqb-true y z f))
      go false f e k = inr (k e)
  bound_cell rs t e = absurd (both_ways false refl e)

  own_cell : (Γ : Context) (z : ℕ) → (y == z) ≡ true → IsAmong (cell_of Γ.replications y) (Γ.cells ++ cell_of Γ.replications z ∷ [])
  own_cell Γ z e = among_right _ Γ.cells (cell_of Γ.replications z ∷ []) (inl (ap (cell_of Γ.replications) (eqb-true y z e)))

  abbrev is_branch : Head → Bool
  is_branch Branch = true
  is_branch h = false

  known_behind : (w : Position) (h : Head) (a : Tree) (Γ : Context) → is_branch h ≡ false → made_by h a (Variable y) ≡ true → HasCell (second_context w h a Γ)
  known_behind w (New z T) a Γ f e = own_cell Γ z e
  known_behind w (Let z T) a Γ f e = own_cell Γ z e
  known_behind w (Key z) a Γ f e = own_cell Γ z e
  known_behind w (Call z l) a Γ f e = own_cell Γ z e
  known_behind w (In c) a Γ f e = among_right _ Γ.cells (cells_of Γ.replications (second a)) (bound_cell Γ.replications (second a) e)
  known_behind w Branch a Γ f e = absurd (both_ways true f refl)
  known_behind w h a Γ f e = absurd (both_ways false refl e)

  after_is : (h : Head) (a b : Tree) (Γ : Context) → is_branch h ≡ false → after_site h a b Γ ≡ second_context Anywhere h a Γ
  after_is Branch a b Γ f = absurd (both_ways true f refl)
  after_is h a b Γ f = refl

  known_in_body : (Γ : Context) (us cells c : Tree) → is_bound us y ≡ true → HasCell (in_body Γ us cells c)
  known_in_body Γ us cells c e = among_right _ (Γ.cells ++ items cells) (Γ.own ++ cells_of Γ.replications us) (among_right _ Γ.own (cells_of Γ.replications us) (bound_cell Γ.replications us e))

  -- a definition of the second variable behind which it is known

  record IsKnownIn (ds : List (ℕ × Context)) : Type 0 where
    definition : ℕ × Context
    listed : IsDefinition definition ds
    known : HasCell definition.1

  on_left : (ds es : List (ℕ × Context)) → IsKnownIn ds → IsKnownIn (ds ++ es)
  on_left ds es k = record { definition = k.definition; listed = more_left k.definition ds es k.listed; known = k.known }

  on_right : (ds es : List (ℕ × Context)) → IsKnownIn es → IsKnownIn (ds ++ es)
  on_right ds es k = record { definition = k.definition; listed = more_right k.definition ds es k.listed; known = k.known }

  module _ (w : Position) (Γ : Context) (p : ℕ) (h : Head) (a b : Tree) where
    abbrev own : List (ℕ × Context)
    own = cond (made_by h a (Variable x)) ((p, after_site h a b Γ) ∷ []) []

    abbrev firsts : List (ℕ × Context)
    firsts = definitions_in x (first_position w h) (first_context w h Γ) (first_place p h) a

    abbrev seconds : List (ℕ × Context)
    seconds = definitions_in x (second_position w h) (second_context w h a Γ) (second_place p h a) b

    at_node : made_by h a (Variable x) ≡ true → HasCell (after_site h a b Γ) → IsKnownIn (definitions_in x w Γ p (Node h a b))
    unfolding definitions_in
    at_node e k = on_left own (firsts ++ seconds) (subst (λ v. IsKnownIn (cond v ((p, after_site h a b Γ) ∷ []) [])) (sym e) (record { definition = (p, after_site h a b Γ); listed = inl refl; known = k }))

    at_first : IsKnownIn firsts → IsKnownIn (definitions_in x w Γ p (Node h a b))
    unfolding definitions_in
    at_first k = on_right own (firsts ++ seconds) (on_left firsts seconds k)

    at_second : IsKnownIn seconds → IsKnownIn (definitions_in x w Γ p (Node h a b))
    unfolding definitions_in
    at_second k = on_right own (firsts ++ seconds) (on_right firsts seconds k)

  -- a process that begins with one
  begun : (w : Position) (Γ : Context) (p : ℕ) (t : Tree) → begins_with x t ≡ true → HasCell Γ → IsKnownIn (definitions_in x w Γ p t)
  begun w Γ p (Node (New z T) a b) e k = at_node w Γ p (New z T) a b (swapped z x e) (among_left _ Γ.cells (cell_of Γ.replications z ∷ []) k)
  begun w Γ p (Node (Let z T) a b) e k = at_node w Γ p (Let z T) a b (swapped z x e) (among_left _ Γ.cells (cell_of Γ.replications z ∷ []) k)
  begun w Γ p t e k = absurd (both_ways false refl e)

  following_is : (h : Head) (b : Tree) → is_branch h ≡ false → following h b ≡ b
  following_is Branch b f = absurd (both_ways true f refl)
  following_is h b f = refl

  -- a construct that defines the first variable, with a definition of the second
  module _ (w : Position) (Γ : Context) (p : ℕ) where
    at_construct : (h : Head) (a b : Tree) → is_branch h ≡ false → made_by h a (Variable y) ≡ true → (made_by h a (Variable x) || begins_with x (following h b)) ≡ true → IsKnownIn (definitions_in x w Γ p (Node h a b))
    at_construct h a b f e d = go (made_by h a (Variable x)) refl d
      where
        go : (v : Bool) → made_by h a (Variable x) ≡ v → (v || begins_with x (following h b)) ≡ true → IsKnownIn (definitions_in x w Γ p (Node h a b))
        go true i d = at_node w Γ p h a b i (subst HasCell (sym (after_is h a b Γ f)) (known_behind Anywhere h a Γ f e))
        go false i d = at_second w Γ p h a b (begun _ _ _ b (ap (begins_with x) (sym (following_is h b f)) ∙ d) (known_behind w h a Γ f e))

    at_branch : (us cells c body : Tree) → is_bound us y ≡ true → (is_bound us x || begins_with x body) ≡ true → IsKnownIn (definitions_in x w Γ p (Node Branch us (Node Cons cells (Node Cons c body))))
    at_branch us cells c body e d = go (is_bound us x) refl d
      where
        guarded : Tree
        guarded = Node Cons c body

        guards : Tree
        guards = Node Cons cells guarded

        go : (v : Bool) → is_bound us x ≡ v → (v || begins_with x body) ≡ true → IsKnownIn (definitions_in x w Γ p (Node Branch us guards))
        go true i d = at_node w Γ p Branch us guards i (known_in_body Γ us cells c e)
        go false i d =
            at_second w Γ p Branch us guards
            (at_second Guards (in_list Γ us) _ Cons cells guarded
            (at_second Guarded (in_condition Γ us cells) _ Cons c body
            (begun Anywhere (in_body Γ us cells c) _ body d (known_in_body Γ us cells c e))))

    at_arm : (b us : Tree) → is_phrase phrase.Guards b ≡ true → is_bound us y ≡ true → (is_bound us x || begins_with x (following Branch b)) ≡ true → IsKnownIn (definitions_in x w Γ p (Node Branch us b))
    unfolding is_phrase
    at_arm (Node Cons cells (Node Cons c body)) us f e d = at_branch us cells c body e d
    at_arm (Node Cons cells rest) us f e d = absurd (both_ways false refl (and_parts (is_phrase Cells cells) _ f).1)
    at_arm b us f e d = absurd (both_ways false refl f)

  guards_there : (σ : Phrase) (us b : Tree) → is_phrase σ (Node Branch us b) ≡ true → is_phrase phrase.Guards b ≡ true
  unfolding is_phrase
  guards_there Arm us b f = (and_parts (is_phrase Binders us) _ f).1
  guards_there σ us b f = absurd (both_ways false refl f)

  at_here : (σ : Phrase) (w : Position) (Γ : Context) (p : ℕ) (h : Head) (a b : Tree) → is_phrase σ (Node h a b) ≡ true → made_by h a (Variable y) ≡ true → (made_by h a (Variable x) || begins_with x (following h b)) ≡ true → IsKnownIn (definitions_in x w Γ p (Node h a b))
  at_here σ w Γ p Branch a b f e d = at_arm w Γ p b a (guards_there σ a b f) e d
  at_here σ w Γ p h a b f e d = at_construct w Γ p h a b refl e d

  joined_known : (σ : Phrase) (w : Position) (Γ : Context) (p : ℕ) (t : Tree) → is_phrase σ t ≡ true → are_joined y x t ≡ true → IsKnownIn (definitions_in x w Γ p t)
  unfolding are_joined
  joined_known σ w Γ p Empty f e = absurd (both_ways false refl e)
  joined_known σ w Γ p (Node h a b) f e =
      let o = open_phrase σ h a b f in
      go (defines_both y x h a b) refl (are_joined y x a) refl (are_joined y x b) refl e (joined_known o.0.0 (first_position w h) (first_context w h Γ) (first_place p h) a o.2) (joined_known o.0.1 (second_position w h) (second_context w h a Γ) (second_place p h a) b o.3)
    where
      go : (m : Bool) → defines_both y x h a b ≡ m → (v : Bool) → are_joined y x a ≡ v → (z : Bool) → are_joined y x b ≡ z → (m || (v || z)) ≡ true
          → (are_joined y x a ≡ true → IsKnownIn (definitions_in x (first_position w h) (first_context w h Γ) (first_place p h) a))
          → (are_joined y x b ≡ true → IsKnownIn (definitions_in x (second_position w h) (second_context w h a Γ) (second_place p h a) b))
          → IsKnownIn (definitions_in x w Γ p (Node h a b))
      go true i v j z k e r s = let q = and_parts (made_by h a (Variable y)) _ i in at_here σ w Γ p h a b f q.0 q.1
      go false i true j z k e r s = at_first w Γ p h a b (r j)
      go false i false j true k e r s = at_second w Γ p h a b (s k)
      go false i false j false k e r s = absurd (both_ways false refl e)

  -- a definition of the second variable somewhere below one of the first, under the same replications

  known_first : (w : Position) (h : Head) (Γ : Context) → HasCell Γ → HasCell (first_context w h Γ)
  known_first position.Bodies Cons Γ k = k
  known_first position.ElseBody Cons Γ k = k
  known_first w Cons Γ k = k
  known_first w h Γ k = k

  known_second : (w : Position) (h : Head) (a : Tree) (Γ : Context) → is_replication h ≡ false → HasCell Γ → HasCell (second_context w h a Γ)
  known_second Guards Cons a Γ f k = among_left _ Γ.cells (items a) k
  known_second Guarded Cons a Γ f k = among_left _ Γ.cells Γ.own k
  known_second position.Cells Cons a Γ f k = among_left _ Γ.cells (a ∷ []) k
  known_second w Cons a Γ f k = k
  known_second w (Repl i n) a Γ f k = absurd (both_ways true f refl)
  known_second w (In c) a Γ f k = among_left _ Γ.cells (cells_of Γ.replications (second a)) k
  known_second w (New z T) a Γ f k = among_left _ Γ.cells (cell_of Γ.replications z ∷ []) k
  known_second w (Let z T) a Γ f k = among_left _ Γ.cells (cell_of Γ.replications z ∷ []) k
  known_second w (Key z) a Γ f k = among_left _ Γ.cells (cell_of Γ.replications z ∷ []) k
  known_second w (Call z l) a Γ f k = among_left _ Γ.cells (cell_of Γ.replications z ∷ []) k
  known_second w h a Γ f k = k

  known_after : (h : Head) (a b : Tree) (Γ : Context) → is_replication h ≡ false → HasCell Γ → HasCell (after_site h a b Γ)
  known_after Branch us (Node h cells (Node j c body)) Γ f k = among_left _ (Γ.cells ++ items cells) (Γ.own ++ cells_of Γ.replications us) (among_left _ Γ.cells (items cells) k)
  known_after Branch us b Γ f k = k
  known_after h a b Γ f k = subst HasCell (sym (after_is h a b Γ refl)) (known_second Anywhere h a Γ f k)

  below_known : (w : Position) (Γ : Context) (p : ℕ) (t : Tree) → is_defined_below x t ≡ true → HasCell Γ → IsKnownIn (definitions_in x w Γ p t)
  unfolding is_defined_below
  below_known w Γ p Empty e k = absurd (both_ways false refl e)
  below_known w Γ p (Node h a b) e k =
      let q = and_parts (not (is_replication h)) (made_by h a (Variable x) || (is_defined_below x a || is_defined_below x b)) e in
      let f : is_replication h ≡ false = not-true (is_replication h) q.0 in
      go (made_by h a (Variable x)) refl (is_defined_below x a) refl q.1 f
      (λ i. below_known (first_position w h) (first_context w h Γ) (first_place p h) a i (known_first w h Γ k))
      (λ i. below_known (second_position w h) (second_context w h a Γ) (second_place p h a) b i (known_second w h a Γ f k))
    where
      go : (m : Bool) → made_by h a (Variable x) ≡ m → (v : Bool) → is_defined_below x a ≡ v → (m || (v || is_defined_below x b)) ≡ true → is_replication h ≡ false
          → (is_defined_below x a ≡ true → IsKnownIn (definitions_in x (first_position w h) (first_context w h Γ) (first_place p h) a))
          → (is_defined_below x b ≡ true → IsKnownIn (definitions_in x (second_position w h) (second_context w h a Γ) (second_place p h a) b))
          → IsKnownIn (definitions_in x w Γ p (Node h a b))
      go true i v j z f r s = at_node w Γ p h a b i (known_after h a b Γ f k)
      go false i true j z f r s = at_first w Γ p h a b (r j)
      go false i false j z f r s = at_second w Γ p h a b (s z)

  below_branch : (w : Position) (Γ : Context) (p : ℕ) (b us : Tree) → is_phrase phrase.Guards b ≡ true → is_bound us y ≡ true → is_defined_below x (following Branch b) ≡ true → IsKnownIn (definitions_in x w Γ p (Node Branch us b))
  unfolding is_phrase
  below_branch w Γ p (Node Cons cells (Node Cons c body)) us f e d =
      at_second w Γ p Branch us (Node Cons cells (Node Cons c body))
      (at_second Guards (in_list Γ us) _ Cons cells (Node Cons c body)
      (at_second Guarded (in_condition Γ us cells) _ Cons c body
      (below_known Anywhere (in_body Γ us cells c) _ body d (known_in_body Γ us cells c e))))
  below_branch w Γ p (Node Cons cells rest) us f e d = absurd (both_ways false refl (and_parts (is_phrase Cells cells) _ f).1)
  below_branch w Γ p b us f e d = absurd (both_ways false refl f)

  below_here : (σ : Phrase) (w : Position) (Γ : Context) (p : ℕ) (h : Head) (a b : Tree) → is_phrase σ (Node h a b) ≡ true → made_by h a (Variable y) ≡ true → is_defined_below x (following h b) ≡ true → IsKnownIn (definitions_in x w Γ p (Node h a b))
  below_here σ w Γ p Branch a b f e d = below_branch w Γ p b a (guards_there σ a b f) e d
  below_here σ w Γ p h a b f e d = at_second w Γ p h a b (below_known (second_position w h) (second_context w h a Γ) (second_place p h a) b (ap (is_defined_below x) (sym (following_is h b refl)) ∙ d) (known_behind w h a Γ refl e))

  above_known : (σ : Phrase) (w : Position) (Γ : Context) (p : ℕ) (t : Tree) → is_phrase σ t ≡ true → stands_above x y t ≡ true → IsKnownIn (definitions_in x w Γ p t)
  unfolding stands_above
  above_known σ w Γ p Empty f e = absurd (both_ways false refl e)
  above_known σ w Γ p (Node h a b) f e =
      let o = open_phrase σ h a b f in
      go (made_by h a (Variable y) && is_defined_below x (following h b)) refl (stands_above x y a) refl e (above_known o.0.0 (first_position w h) (first_context w h Γ) (first_place p h) a o.2) (above_known o.0.1 (second_position w h) (second_context w h a Γ) (second_place p h a) b o.3)
    where
      go : (m : Bool) → (made_by h a (Variable y) && is_defined_below x (following h b)) ≡ m → (v : Bool) → stands_above x y a ≡ v → (m || (v || stands_above x y b)) ≡ true
          → (stands_above x y a ≡ true → IsKnownIn (definitions_in x (first_position w h) (first_context w h Γ) (first_place p h) a))
          → (stands_above x y b ≡ true → IsKnownIn (definitions_in x (second_position w h) (second_context w h a Γ) (second_place p h a) b))
          → IsKnownIn (definitions_in x w Γ p (Node h a b))
      go true i v j z r s = let q = and_parts (made_by h a (Variable y)) _ i in below_here σ w Γ p h a b f q.0 q.1
      go false i true j z r s = at_first w Γ p h a b (r j)
      go false i false j z r s = at_second w Γ p h a b (s z)

-- a cell at the current indices

terms_values : (g : Setting) (at : Indices) (m : Store) (ps rs : List (ℕ × ℕ)) → AreIndicesOf g ps rs → AllByRecursion (IsFound at) ps → values g at m (index_terms rs) ≡ tuple ps
unfolding value
terms_values g at m [] [] n f = refl
terms_values g at m [] (r ∷ rs) n f = absurd n
terms_values g at m (p ∷ ps) [] n f = absurd n
terms_values g at m (p ∷ ps) (r ∷ rs) n f = ap₂ ◌∷◌ (ap (leaf_value g at m) (sym n.0) ∙ ap (leaf_value_from g m p.0) f.0) (terms_values g at m ps rs n.2 f.1)

cell_there : (g : Setting) (variable : ℕ → Bool) (y : ℕ) (rs : List (ℕ × ℕ)) (at : Indices) (m : Store) → Matches g variable rs at → is_assigned g at m m (cell_of rs y) ≡ true → is_some (m y (tuple at)) ≡ true
cell_there g variable y [] [] m k e = e
cell_there g variable y [] (p ∷ ps) m k e = absurd k.named
cell_there g variable y (r ∷ rs) at m k e = ap (λ u. is_some (m y u)) (sym (terms_values g at m at (r ∷ rs) k.named k.found)) ∙ e

-- in a run
module _ (g : Setting) (variable : ℕ → Bool) (game : Tree) (fine : Game g variable game) (y x : ℕ) where
  known_by : sites x game ≡ 1 → IsKnownIn y x (definitions_of game x) → (m : Store) (es : List Happened) → StoreHolds g variable game fine m es → (w : List ℕ) → is_some (m x w) ≡ true → is_some (m y w) ≡ true
  known_by n k m es holds w i =
      let r = some_of (m x w) i in
      let s : SiteHolds g variable game fine x w r.0 m es = holds x w r.0 r.1 in
      let there : IsDefinition (s.place, after_site s.head s.one s.two s.above) (definitions_of game x) = stands_definition game x s.place s.phrase s.above s.head s.one s.two s.stands s.defines in
      let d : k.definition ≡ (s.place, after_site s.head s.one s.two s.above) = only_definition x game k.definition (s.place, after_site s.head s.one s.two s.above) n k.listed there in
      let Γ : Context = after_site s.head s.one s.two s.above in
      let cell : IsAmong (cell_of Γ.replications y) Γ.cells = subst (λ (c : ℕ × Context). IsAmong (cell_of c.1.replications y) c.1.cells) d k.known in
      let held : CellHolds g variable s.indices m (cell_of Γ.replications y) = among_each (CellHolds g variable s.indices m) (cell_of Γ.replications y) Γ.cells cell s.holds.cells in
      ap (λ u. is_some (m y u)) (sym s.at) ∙ cell_there g variable y Γ.replications s.indices m s.matches held.assigned

  pub known_there : is_phrase Inputs game ≡ true → sites x game ≡ 1 → are_joined y x game ≡ true → (m : Store) (es : List Happened) → StoreHolds g variable game fine m es
      → (w : List ℕ) → is_some (m x w) ≡ true → is_some (m y w) ≡ true
  known_there f n e = known_by n (joined_known y x Inputs Anywhere nothing_known 0 game f e)

  pub above_there : is_phrase Inputs game ≡ true → sites x game ≡ 1 → stands_above x y game ≡ true → (m : Store) (es : List Happened) → StoreHolds g variable game fine m es
      → (w : List ℕ) → is_some (m x w) ≡ true → is_some (m y w) ≡ true
  above_there f n e = known_by n (above_known y x Inputs Anywhere nothing_known 0 game f e)
