-- Lists that are gathered item by item.
use Rattle.std.proofs.Common.{◌≡◌, ℕ, ◌+◌, ◌<◌, ◌≤◌, List, [], ◌∷◌, ◌++◌, All, Option, Some, None, get_or, length, map, take, ap, ap₂, subst, sym, ◌∙◌, arith}
use Rattle.std.specs.Prelude.{IfNone, flat_map}
use Rattle.std.proofs.lemmas.Grind.{flat_map-append}
use Rattle.std.proofs.lemmas.List.{append-nil, append_assoc, flat_map_more, map-append, take_all, take_more}
use Rattle.std.proofs.lemmas.List.Elements.{All-push}
use Rattle.cv_pool.specs.KindTree.{KindTree}
use Rattle.cv_inline.specs.NextGame as game
use Rattle.cv_inline.specs.declared.terms.calling.Calling.{Calling}
use Rattle.cv_inline_sites.specs.listing.Callings.{callers_in, calling_in, callings_in}
use Rattle.cv_inline.specs.terms.Callers.{caller_in}
use Rattle.cv_syntax_trees.specs.Tree.{Tree, Empty, Node, first, second, size}
use Rattle.cv_meaning.specs.Correspondences.{typed_names}
use Rattle.cv_meaning.specs.contexts.Inlined.{Caller}
use Rattle.cv_inline.specs.Draws.{Draw, argument_draws, body_draws}
use Rattle.cv_inline_sites.specs.listing.Callings.{IsLiveCalling}
use Rattle.cv_inline_draws.specs.sites.Parts.{draws_below, own_draws}
use Rattle.cv_inline_draws.proofs.sites.Branching.{body_parts}
use Rattle.cv_inline_sites.specs.listing.Subtrees.{IsBelow}
use Rattle.cv_inline_sites.specs.declared.listing.subtree.Subtree.{Subtree}

pub none_of : {A : Type 0} (o : Option A) (P : Type 0) → o ≡ None → IfNone o P → P
none_of None P e h = h
none_of (Some x) P e h = absurd (cc)

-- one more item, behind those that were gone over
pub grow : {A B : Type 0} (f : A → List B) (before old new : List B) (ys zs : List A) (y : A) → zs ≡ ys ++ y ∷ [] → new ≡ old ++ f y → old ≡ before ++ flat_map f ys → new ≡ before ++ flat_map f zs
grow f before old new ys zs y e n o = n ∙ (ap (λ l. l ++ f y) o ∙ (flat_map_more f before ys y ∙ ap (λ l. before ++ flat_map f l) (sym e)))

pub callings_more : (trees : List KindTree) (xs : List Calling) (i : ℕ) (d : Calling) → i < length xs → callings_in trees (take (i + 1) xs) ≡ callings_in trees (take i xs) ++ calling_in trees (get_or xs i d) ∷ []
callings_more trees xs i d h = ap (callings_in trees) (take_more xs i d h) ∙ map-append (calling_in trees) (take i xs) (get_or xs i d ∷ [])

pub callers_more : (trees : List KindTree) (xs : List Calling) (i : ℕ) (d : Calling) → i < length xs → callers_in trees (take (i + 1) xs) ≡ callers_in trees (take i xs) ++ caller_in trees (get_or xs i d).caller ∷ []
callers_more trees xs i d h =
    ap (map (λ (c : game.Calling). c.caller)) (callings_more trees xs i d h) ∙ map-append (λ (c : game.Calling). c.caller) (callings_in trees (take i xs)) (calling_in trees (get_or xs i d) ∷ [])

-- one more body, where what is left after it is this
pub body_more : {A B : Type 0} (f : A → List B) (old new : List A) (x : A) (rest after all : List B) → new ≡ old ++ x ∷ [] → rest ≡ f x ++ after → flat_map f old ++ rest ≡ all → flat_map f new ++ after ≡ all
body_more f old new x rest after all n r so_far =
    ap (λ l. flat_map f l ++ after) n
    ∙ (ap (λ l. l ++ after) (flat_map-append f old (x ∷ []) ∙ ap (λ l. flat_map f old ++ l) (append-nil (f x)))
    ∙ (append_assoc (flat_map f old) (f x) after ∙ (ap (λ l. flat_map f old ++ l) (sym r) ∙ so_far)))

-- a last body
pub body_last : {A B : Type 0} (f : A → List B) (old new : List A) (x : A) (front : List B) → new ≡ old ++ x ∷ [] → flat_map f old ≡ front → flat_map f new ≡ front ++ f x
body_last f old new x front n o = ap (flat_map f) n ∙ (flat_map-append f old (x ∷ []) ∙ ap₂ ◌++◌ o (append-nil (f x)))

pub lower : (trees : List KindTree) (m n : ℕ) (s : Subtree) → m ≤ n → IsBelow trees m s → IsBelow trees n s
lower trees m n s h b = record { within = b.within; below = let i = b.below in omega arith }

pub all_lower : (trees : List KindTree) (m n : ℕ) (xs : List Subtree) → m ≤ n → All (IsBelow trees m) xs → All (IsBelow trees n) xs
all_lower trees m n xs h all = λ i d j. lower trees m n (get_or xs i d) h (all i d j)

pub below_push : (trees : List KindTree) (m : ℕ) (old new : List Subtree) (x : Subtree) → new ≡ old ++ x ∷ [] → All (IsBelow trees m) old → IsBelow trees m x → All (IsBelow trees m) new
below_push trees m old new x e all b = subst (All (IsBelow trees m)) (sym e) (All-push (IsBelow trees m) old x all b)

-- the item of a loop over sites

pub callers_step : {B : Type 0} (f : Caller → List B) (trees : List KindTree) (xs : List Calling) (i : ℕ) (d x : Calling) (before old new : List B) → i < length xs → x ≡ get_or xs i d → new ≡ old ++ f (caller_in trees x.caller) →
    old ≡ before ++ flat_map f (callers_in trees (take i xs)) → new ≡ before ++ flat_map f (callers_in trees (take (i + 1) xs))
callers_step f trees xs i d x before old new h e n o =
    grow f before old new (callers_in trees (take i xs)) (callers_in trees (take (i + 1) xs)) (caller_in trees (get_or xs i d).caller) (callers_more trees xs i d h) (n ∙ ap (λ (k : Calling). old ++ f (caller_in trees k.caller)) e) o

pub callings_step : {B : Type 0} (f : game.Calling → List B) (trees : List KindTree) (xs : List Calling) (i : ℕ) (d x : Calling) (old new : List B) → i < length xs → x ≡ get_or xs i d → new ≡ old ++ f (calling_in trees x) →
    old ≡ flat_map f (callings_in trees (take i xs)) → new ≡ flat_map f (callings_in trees (take (i + 1) xs))
callings_step f trees xs i d x old new h e n o =
    grow f [] old new (callings_in trees (take i xs)) (callings_in trees (take (i + 1) xs)) (calling_in trees (get_or xs i d)) (callings_more trees xs i d h) (n ∙ ap (λ (k : Calling). old ++ f (calling_in trees k)) e) o

pub live_item : (trees : List KindTree) (xs : List Calling) (i : ℕ) (d x : Calling) → All (IsLiveCalling trees) xs → i < length xs → x ≡ get_or xs i d → IsLiveCalling trees x
live_item trees xs i d x all h e = subst (IsLiveCalling trees) (sym e) (all i d h)

pub second_small : (t : Tree) → size (second t) ≤ size t
unfolding size
second_small Empty = omega arith
second_small (Node h a b) = omega arith

-- what is drawn for a body, when all bodies below it were gone over
pub whole_body : (ss : List Caller) (c q : ℕ) (t : Tree) (f : Subtree → List Draw) (old one all : List Draw) (xs items : List Subtree) (i : ℕ) → one ≡ old ++ own_draws ss c q t → all ≡ one ++ flat_map f (take i xs) → length xs ≤ i → xs ≡ items →
    flat_map f items ≡ draws_below ss c q t → all ≡ old ++ body_draws ss c q t
whole_body ss c q t f old one all xs items i o a h e d =
    a
    ∙ (ap (λ l. one ++ flat_map f l) (take_all i xs h ∙ e)
    ∙ (ap (λ l. one ++ l) d
    ∙ (ap (λ l. l ++ draws_below ss c q t) o ∙ (append_assoc old (own_draws ss c q t) (draws_below ss c q t) ∙ ap (λ l. old ++ l) (sym (body_parts ss c q t))))))

-- what is drawn for a site
pub whole_site : (ss : List Caller) (k : ℕ) (f g a b : Tree) (old one two : List Draw) → g ≡ first f → a ≡ second g → b ≡ second f → one ≡ old ++ argument_draws k (typed_names a) → two ≡ one ++ body_draws ss k 0 b →
    two ≡ old ++ (argument_draws k (typed_names (second (first f))) ++ body_draws ss k 0 (second f))
whole_site ss k f g a b old one two e h i o n =
    n
    ∙ (ap₂ (λ l t. l ++ body_draws ss k 0 t) (o ∙ ap (λ t. old ++ argument_draws k (typed_names t)) (h ∙ ap second e)) i
    ∙ append_assoc old (argument_draws k (typed_names (second (first f)))) (body_draws ss k 0 (second f)))
