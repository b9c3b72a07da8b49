-- The names of a game's definitions by their places, and that no replication has a new name.
use Rattle.std.proofs.Common.{◌≡◌, ℕ, ◌==◌, ◌||◌, Bool, true, false, cond, List, [], ◌∷◌, ◌++◌, map, length, Some, refl, sym, ap, ◌∙◌, eq-eqb, eqb-true}
use Rattle.std.proofs.lemmas.Bool.{both_ways, or_left, or_parts, or_right}
use Rattle.std.proofs.lemmas.List.{map-append}
use Rattle.std.specs.List.{list_any}
use Rattle.cv_syntax_trees.specs.declared.head.Head.{Head}
use Rattle.cv_syntax_trees.specs.declared.head.Head.TheVariants.{Binder, Branch, Call, In, Key, Let, New, Repl}
use Rattle.cv_syntax_trees.specs.Tree.{Tree, Empty, Node, first_place, second, second_place}
use Rattle.cv_meaning.specs.Interpretation.{Setting}
use Rattle.cv_meaning.specs.Terms.{found_in, or_zero}
use Rattle.cv_scope_rules.proofs.Apart.{first_replications, second_replications}
use Rattle.cv_scope_rules.specs.Above as above
use Rattle.cv_scope_rules.specs.Behind.{behind_site, sites_in, sites_of}
use Rattle.cv_scope_rules.specs.Context.{Context, first_position, nothing_known, replications_below, second_position}
use Rattle.cv_scope_rules.specs.Made.{is_bound, made_by}
use Rattle.cv_scope_rules.specs.Phrases.{Phrase}
use Rattle.cv_scope_rules.specs.Rules.{is_index}
use Rattle.cv_scope_rules.specs.Sites.{Variable}
use Rattle.cv_scope_rules.specs.declared.position.Position.{Position}
use Rattle.cv_scope_rules.specs.declared.position.Position.TheVariants as position
use Rattle.cv_scope_runs.proofs.Games.{Game, has_parts, stands_phrase, stands_variable}
use Rattle.cv_scope_runs.proofs.Rows.{position_of}
use Rattle.cv_scope_runs.proofs.Standing.{Stands, in_first, in_second, root}
use Rattle.cv_scene.specs.Scenes.{head_names, names}
use Rattle.cv_edit_names.specs.Naming.{named_places}
use Rattle.cv_rule_array_names.proofs.Around.{stands_free}
use Rattle.cv_rule_array_names.proofs.Stores.{Free, is_name}

-- places of definitions

unfoldable pub site_places : (x p : ℕ) → Tree → List ℕ
site_places x p Empty = []
site_places x p (Node h a b) = (cond (made_by h a (Variable x)) (p ∷ []) []) ++ (site_places x (first_place p h) a ++ site_places x (second_place p h a) b)

abbrev pub place_of : ℕ × Context → ℕ
place_of d = d.0

pub same_places : (x : ℕ) (w : Position) (Γ : Context) (p : ℕ) (t : Tree) → map place_of (sites_in x w Γ p t) ≡ site_places x p t
unfolding sites_in site_places
same_places x w Γ p Empty = refl
same_places x w Γ p (Node h a b) =
    let here : List (ℕ × Context) = cond (made_by h a (Variable x)) ((p, behind_site h a b Γ) ∷ []) [] in
    let one : List (ℕ × Context) = sites_in x (first_position w h) (above.first_standing w h Γ) (first_place p h) a in
    let two : List (ℕ × Context) = sites_in x (second_position w h) (above.second_standing w h a Γ) (second_place p h a) b in
    let this : map place_of here ≡ cond (made_by h a (Variable x)) (p ∷ []) [] = go (made_by h a (Variable x)) in
    let one_same : map place_of one ≡ site_places x (first_place p h) a = same_places x (first_position w h) (above.first_standing w h Γ) (first_place p h) a in
    let two_same : map place_of two ≡ site_places x (second_place p h a) b = same_places x (second_position w h) (above.second_standing w h a Γ) (second_place p h a) b in
    map-append place_of here (one ++ two) ∙ ap (λ l. map place_of here ++ l) (map-append place_of one two) ∙ (λ i. this i ++ (one_same i ++ two_same i))
  where
    go : (c : Bool) → map place_of (cond c ((p, behind_site h a b Γ) ∷ []) []) ≡ cond c (p ∷ []) []
    go true = refl
    go false = refl

-- a place is one of them

abbrev pub is_place : List ℕ → ℕ → Bool
is_place ps q = list_any (λ p. p == q) ps

pub place_left : (ps qs : List ℕ) (q : ℕ) → is_place ps q ≡ true → is_place (ps ++ qs) q ≡ true
place_left [] qs q e = absurd (both_ways false refl e)
place_left (p ∷ ps) qs q e = go (p == q) (place_left ps qs q) e
  where
    go : (b : Bool) → (is_place ps q ≡ true → is_place (ps ++ qs) q ≡ true) → (b || is_place ps q) ≡ true → (b || is_place (ps ++ qs) q) ≡ true
    go true ih k = refl
    go false ih k = ih k

pub place_right : (ps qs : List ℕ) (q : ℕ) → is_place qs q ≡ true → is_place (ps ++ qs) q ≡ true
place_right [] qs q e = e
place_right (p ∷ ps) qs q e = or_right (p == q) (is_place (ps ++ qs) q) (place_right ps qs q e)

place_up : (game : Tree) (x q : ℕ) {p : ℕ} {σ : Phrase} {Γ : Context} {b : Tree} → Stands game p σ Γ b → is_place (site_places x p b) q ≡ true → is_place (site_places x 0 game) q ≡ true
unfolding site_places
place_up game x q root e = e
place_up game x q (in_first {p = p} {h = h} {a = a} {b = b} f st) e = place_up game x q st (place_right (cond (made_by h a (Variable x)) (p ∷ []) []) _ q (place_left (site_places x (first_place p h) a) _ q e))
place_up game x q (in_second {p = p} {h = h} {a = a} {b = b} f st) e = place_up game x q st (place_right (cond (made_by h a (Variable x)) (p ∷ []) []) _ q (place_right (site_places x (first_place p h) a) _ q e))

place_there : (game : Tree) (x q : ℕ) (σ : Phrase) (Γ : Context) (h : Head) (a b : Tree) → Stands game q σ Γ (Node h a b) → made_by h a (Variable x) ≡ true → is_place (site_places x 0 game) q ≡ true
unfolding site_places
place_there game x q σ Γ h a b st e =
    place_up game x q st (place_left (cond (made_by h a (Variable x)) (q ∷ []) []) _ q (ap (λ c. is_place (cond c (q ∷ []) []) q) e ∙ ap (λ c. c || false) (eq-eqb q q refl)))

pub named_at : (ds : List (ℕ × Context)) (ys : List ℕ) (q : ℕ) → length ds ≡ length ys → is_place (map place_of ds) q ≡ true → is_name ys (or_zero (found_in (named_places ds ys) q)) ≡ true
named_at [] ys q l e = absurd (both_ways false refl e)
named_at (d ∷ ds) [] q l e = absurd (cc)
named_at (d ∷ ds) (y ∷ ys) q l e = go (d.0 == q) (named_at ds ys q (let i : length ds ≡ length ys = cc in i)) e
  where
    go : (b : Bool) → (is_place (map place_of ds) q ≡ true → is_name ys (or_zero (found_in (named_places ds ys) q)) ≡ true) → (b || is_place (map place_of ds) q) ≡ true → is_name (y ∷ ys) (or_zero (cond b (Some y) (found_in (named_places ds ys) q))) ≡ true
    go true ih k = or_left (y == y) (is_name ys y) (eq-eqb y y refl)
    go false ih k = or_right (y == or_zero (found_in (named_places ds ys) q)) _ (ih k)

pub site_named : (game : Tree) (x : ℕ) (ys : List ℕ) → length (sites_of game x) ≡ length ys → (q : ℕ) (σ : Phrase) (Γ : Context) (h : Head) (a b : Tree) → Stands game q σ Γ (Node h a b) → made_by h a (Variable x) ≡ true
    → is_name ys (or_zero (found_in (named_places (sites_of game x) ys) q)) ≡ true
site_named game x ys l q σ Γ h a b st e = named_at (sites_of game x) ys q l (ap (λ ps. is_place ps q) (same_places x position.Anywhere nothing_known 0 game) ∙ place_there game x q σ Γ h a b st e)

-- a variable with a definition is one of the game

module _ (g : Setting) (variable : ℕ → Bool) (game : Tree) (fine : Game g variable game) where
  some_site : (x : ℕ) (t : Tree) (p : ℕ) (σ : Phrase) (Γ : Context) → Stands game p σ Γ t → (q : ℕ) (qs : List ℕ) → site_places x p t ≡ q ∷ qs → variable x ≡ true
  unfolding site_places
  some_site x Empty p σ Γ st q qs e = absurd (cc)
  some_site x (Node h a b) p σ Γ st q qs e =
      let c = has_parts σ h a b (stands_phrase g variable game fine st) in
      go (made_by h a (Variable x)) refl (site_places x (first_place p h) a) refl (λ y ys f. some_site x a (first_place p h) c.0.0 _ (in_first c.1 st) y ys f) (λ y ys f. some_site x b (second_place p h a) c.0.1 _ (in_second c.1 st) y ys f) e
    where
      go : (v : Bool) → made_by h a (Variable x) ≡ v → (ps : List ℕ) → site_places x (first_place p h) a ≡ ps → ((y : ℕ) (ys : List ℕ) → site_places x (first_place p h) a ≡ y ∷ ys → variable x ≡ true) → ((y : ℕ) (ys : List ℕ) → site_places x (second_place p h a) b ≡ y ∷ ys → variable x ≡ true)
          → cond v (p ∷ []) [] ++ (ps ++ site_places x (second_place p h a) b) ≡ q ∷ qs → variable x ≡ true
      go true i ps f one two k = stands_variable g variable game fine st x i
      go false i (y ∷ ys) f one two k = one y ys f
      go false i [] f one two k = two q qs k

  pub site_variable : (x : ℕ) (d : ℕ × Context) (ds : List (ℕ × Context)) → sites_of game x ≡ d ∷ ds → variable x ≡ true
  site_variable x d ds e = some_site x game 0 _ nothing_known root d.0 (map place_of ds) (sym (same_places x position.Anywhere nothing_known 0 game) ∙ ap (map place_of) e)

-- no replication above a place has a new name

pub index_pushed : (rs : List (ℕ × ℕ)) (i n y : ℕ) → is_index rs y ≡ false → (i == y) ≡ false → is_index (rs ++ (i, n) ∷ []) y ≡ false
index_pushed [] i n y e f = ap (λ b. b || false) f
index_pushed (r ∷ rs) i n y e f = go (r.0 == y) (index_pushed rs i n y) e
  where
    go : (b : Bool) → (is_index rs y ≡ false → (i == y) ≡ false → is_index (rs ++ (i, n) ∷ []) y ≡ false) → (b || is_index rs y) ≡ false → (b || is_index (rs ++ (i, n) ∷ []) y) ≡ false
    go true ih k = absurd (both_ways true k refl)
    go false ih k = ih k f

below_free : (h : Head) (rs : List (ℕ × ℕ)) (y : ℕ) → head_names y h ≡ false → is_index rs y ≡ false → is_index (replications_below h rs) y ≡ false
below_free (Repl i n) rs y e f = index_pushed rs i n y f e
below_free h rs y e f = f

head_lacks : (ys : List ℕ) (h : Head) (a b : Tree) (y : ℕ) → is_name ys y ≡ true → Free ys (Node h a b) → head_names y h ≡ false
unfolding names
head_lacks ys h a b y e f = (or_parts (head_names y h) _ (f y e)).0

pub no_new_index : (ys : List ℕ) (game : Tree) → Free ys game → (y : ℕ) → is_name ys y ≡ true → {p : ℕ} {σ : Phrase} {Γ : Context} {b : Tree} → Stands game p σ Γ b → is_index Γ.replications y ≡ false
no_new_index ys game f y e root = refl
no_new_index ys game f y e (in_first {σ = σ} {Γ = Γ} {h = h} {a = a} {b = b} q st) = ap (λ rs. is_index rs y) (first_replications (position_of σ) h Γ) ∙ no_new_index ys game f y e st
no_new_index ys game f y e (in_second {σ = σ} {Γ = Γ} {h = h} {a = a} {b = b} q st) =
    ap (λ rs. is_index rs y) (second_replications (position_of σ) h a Γ) ∙ below_free h Γ.replications y (head_lacks ys h a b y e (stands_free ys game f st)) (no_new_index ys game f y e st)

-- a variable that the game doesn't name has no definition

unnamed_bound : (x : ℕ) (bs : Tree) → names x bs ≡ false → is_bound bs x ≡ false
unfolding names is_bound
unnamed_bound x (Node (Binder z T) a b) e = go (x == z) refl (unnamed_bound x b (or_parts (names x a) _ (or_parts (z == x) _ e).1).1)
  where
    go : (c : Bool) → (x == z) ≡ c → is_bound b x ≡ false → (c || is_bound b x) ≡ false
    go true i h = absurd (both_ways (z == x) (or_parts (z == x) _ e).0 (eq-eqb z x (sym (eqb-true x z i))))
    go false i h = h
unnamed_bound x bs e = refl

unnamed_part : (x : ℕ) (a : Tree) → names x a ≡ false → names x (second a) ≡ false
unfolding names
unnamed_part x Empty e = refl
unnamed_part x (Node h a b) e = (or_parts (names x a) _ (or_parts (head_names x h) _ e).1).1

flipped : (x z : ℕ) → (z == x) ≡ false → (x == z) ≡ false
flipped x z e = go (x == z) refl
  where
    go : (b : Bool) → (x == z) ≡ b → (x == z) ≡ false
    go true i = absurd (both_ways (z == x) e (eq-eqb z x (sym (eqb-true x z i))))
    go false i = i

unnamed_made : (x : ℕ) (h : Head) (a b : Tree) → names x (Node h a b) ≡ false → made_by h a (Variable x) ≡ false
unfolding names
unnamed_made x (New z T) a b e = flipped x z (or_parts (z == x) _ e).0
unnamed_made x (Let z T) a b e = flipped x z (or_parts (z == x) _ e).0
unnamed_made x (Key z) a b e = flipped x z (or_parts (z == x) _ e).0
unnamed_made x (Call z l) a b e = flipped x z (or_parts (z == x) _ e).0
unnamed_made x (In c) a b e = unnamed_bound x (second a) (unnamed_part x a (or_parts (names x a) _ (or_parts false _ e).1).0)
unnamed_made x Branch a b e = unnamed_bound x a (or_parts (names x a) _ (or_parts false _ e).1).0
unnamed_made x h a b e = refl

unnamed_places : (x p : ℕ) (t : Tree) → names x t ≡ false → site_places x p t ≡ []
unfolding names site_places
unnamed_places x p Empty e = refl
unnamed_places x p (Node h a b) e =
    let r = or_parts (names x a) _ (or_parts (head_names x h) _ e).1 in
    ap (λ c. cond c (p ∷ []) [] ++ (site_places x (first_place p h) a ++ site_places x (second_place p h a) b)) (unnamed_made x h a b e)
    ∙ (λ i. unnamed_places x (first_place p h) a r.0 i ++ unnamed_places x (second_place p h a) b r.1 i)

pub unnamed_sites : (game : Tree) (x : ℕ) → names x game ≡ false → (d : ℕ × Context) (ds : List (ℕ × Context)) → sites_of game x ≡ d ∷ ds → ⊥
unnamed_sites game x e d ds f =
    let k : d.0 ∷ map place_of ds ≡ [] = sym (ap (map place_of) f) ∙ same_places x position.Anywhere nothing_known 0 game ∙ unnamed_places x 0 game e in (cc)
