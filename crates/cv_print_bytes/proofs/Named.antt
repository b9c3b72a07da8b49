-- What is known of a tree is known of its parts, and the indices of the channels of a phrase are names.
use Rattle.std.proofs.Common.{◌≡◌, ℕ, Bool, true, false, ◌&&◌, Option, Some, None, refl}
use Rattle.std.proofs.lemmas.Bool.{and_parts, and_from, both_ways}
use Rattle.cv_scope_rules.specs.Phrases.{Phrase, Inputs, Body, Pattern, Message, Indices, Binders, Terms, parts, both_are, is_phrase}
use Rattle.cv_syntax_trees.specs.Tree.{Tree, Empty, Node, first, second}
use Rattle.cv_syntax_trees.specs.declared.head.Head.{Head}
use Rattle.cv_syntax_trees.specs.declared.head.Head.TheVariants.{In, Out, Cons, Name}
use Rattle.cv_print_bytes.specs.Known.{head_is_named, is_named}

pub record Parted (count : ℕ) (h : Head) (a b : Tree) : Type 0 where
  pub here : head_is_named count h ≡ true
  pub left : is_named count a ≡ true
  pub right : is_named count b ≡ true

pub parted : (count : ℕ) (h : Head) (a b : Tree) → is_named count (Node h a b) ≡ true → Parted count h a b
unfolding is_named
parted count h a b k =
    let p = and_parts (head_is_named count h) (is_named count a && is_named count b) k in
    let q = and_parts (is_named count a) (is_named count b) p.1 in
    record { here = p.0; left = q.0; right = q.1 }

pub first_named : (count : ℕ) (t : Tree) → is_named count t ≡ true → is_named count (first t) ≡ true
first_named count Empty k = k
first_named count (Node h a b) k = (parted count h a b k).left

pub second_named : (count : ℕ) (t : Tree) → is_named count t ≡ true → is_named count (second t) ≡ true
second_named count Empty k = k
second_named count (Node h a b) k = (parted count h a b k).right

-- a list of names
unfoldable pub all_names : Tree → Bool
all_names Empty = true
all_names (Node (Name x) a b) = all_names b
all_names (Node h a b) = false

-- no binder stands among the indices of a channel
abbrev pub head_is_fit : Head → Tree → Bool
head_is_fit (In c) a = all_names (first a)
head_is_fit (Out c) a = all_names (first a)
head_is_fit h a = true

unfoldable pub is_fit : Tree → Bool
is_fit Empty = true
is_fit (Node h a b) = head_is_fit h a && (is_fit a && is_fit b)

pub record Fits (h : Head) (a b : Tree) : Type 0 where
  pub here : head_is_fit h a ≡ true
  pub left : is_fit a ≡ true
  pub right : is_fit b ≡ true

pub fits : (h : Head) (a b : Tree) → is_fit (Node h a b) ≡ true → Fits h a b
unfolding is_fit
fits h a b k =
    let p = and_parts (head_is_fit h a) (is_fit a && is_fit b) k in
    let q = and_parts (is_fit a) (is_fit b) p.1 in
    record { here = p.0; left = q.0; right = q.1 }

indices_are : (t : Tree) → is_phrase Indices t ≡ true → all_names t ≡ true
unfolding is_phrase all_names
indices_are Empty e = refl
indices_are (Node (Name x) a b) e = indices_are b (and_parts _ (is_phrase Indices b) e).1
indices_are (Node h a b) e = absurd (both_ways _ refl e)

pattern_is : (t : Tree) → is_phrase Pattern t ≡ true → all_names (first t) ≡ true
unfolding is_phrase all_names
pattern_is Empty e = refl
pattern_is (Node Cons a b) e = indices_are a (and_parts (is_phrase Indices a) (is_phrase Binders b) e).0
pattern_is (Node h a b) e = absurd (both_ways _ refl e)

message_is : (t : Tree) → is_phrase Message t ≡ true → all_names (first t) ≡ true
unfolding is_phrase all_names
message_is Empty e = refl
message_is (Node Cons a b) e = indices_are a (and_parts (is_phrase Indices a) (is_phrase Terms b) e).0
message_is (Node h a b) e = absurd (both_ways _ refl e)

input_is : (φ : Phrase) (c : ℕ) (a b : Tree) → is_phrase φ (Node (In c) a b) ≡ true → all_names (first a) ≡ true
unfolding is_phrase
input_is Inputs c a b e = pattern_is a (and_parts (is_phrase Pattern a) (is_phrase Body b) e).0
input_is φ c a b e = absurd (both_ways _ refl e)

output_is : (φ : Phrase) (c : ℕ) (a b : Tree) → is_phrase φ (Node (Out c) a b) ≡ true → all_names (first a) ≡ true
unfolding is_phrase
output_is Body c a b e = message_is a (and_parts (is_phrase Message a) (is_phrase Inputs b) e).0
output_is φ c a b e = absurd (both_ways _ refl e)

head_is : (φ : Phrase) (h : Head) (a b : Tree) → is_phrase φ (Node h a b) ≡ true → head_is_fit h a ≡ true
head_is φ (In c) a b e = input_is φ c a b e
head_is φ (Out c) a b e = output_is φ c a b e
head_is φ h a b e = refl

sides : (o : Option (Phrase × Phrase)) (a b : Tree) → ((τ : Phrase) → is_phrase τ a ≡ true → is_fit a ≡ true) → ((ρ : Phrase) → is_phrase ρ b ≡ true → is_fit b ≡ true) → both_are o (λ τ. is_phrase τ a) (λ ρ. is_phrase ρ b) ≡ true → (is_fit a && is_fit b) ≡ true
sides None a b f g e = absurd (both_ways _ refl e)
sides (Some q) a b f g e = let p = and_parts (is_phrase q.0 a) (is_phrase q.1 b) e in and_from _ _ (f q.0 p.0) (g q.1 p.1)

pub phrase_fits : (φ : Phrase) (t : Tree) → is_phrase φ t ≡ true → is_fit t ≡ true
unfolding is_phrase is_fit
phrase_fits φ Empty e = refl
phrase_fits φ (Node h a b) e = and_from _ _ (head_is φ h a b e) (sides (parts φ h) a b (λ τ k. phrase_fits τ a k) (λ ρ k. phrase_fits ρ b k) e)
