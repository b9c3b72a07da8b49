-- Reads and lists of names, part by part.
use Rattle.std.proofs.Common.{◌≡◌, ℕ, zero, suc, ◌+◌, ◌<◌, ◌≤◌, min, ◌⊎◌, inl, inr, List, [], ◌∷◌, ◌++◌, length, map, take, drop, replicate, get_or, refl, ap, ap₂, sym, ◌∙◌, arith, append_assoc}
use Rattle.std.proofs.lemmas.Bool.{cases_lt}
use Rattle.std.proofs.lemmas.List.{take-take, take_all, length-take, map_more, drop_all, replicate_more}
use Rattle.cv_parse_grammar.specs.Filled.{read_at}
use Rattle.cv_syntax_trees.specs.declared.head.Head.TheVariants.{Leaf, Cons, Name, Read}
use Rattle.cv_syntax.specs.declared.make.Make.{Make}
use Rattle.cv_syntax.specs.declared.make.Make.TheVariants.{Nothing, Over}
use Rattle.cv_syntax_trees.specs.Tree.{chain, lone, names}
use Rattle.cv_parse_names.specs.indices.Backward.{backward}

abbrev pub leaves_back : List ℕ → List Make
leaves_back [] = []
leaves_back (x ∷ xs) = leaves_back xs ++ Over (Leaf x) ∷ Nothing ∷ Nothing ∷ []

pub chain_back : (l : List ℕ) → backward (chain (map (λ i. lone (Leaf i)) l)) ≡ replicate (length l) (Over Cons) ++ Nothing ∷ leaves_back l
unfolding backward
chain_back [] = refl
chain_back (x ∷ l) = ap (λ z. Over Cons ∷ (z ++ Over (Leaf x) ∷ Nothing ∷ Nothing ∷ [])) (chain_back l) ∙ ap (λ z. Over Cons ∷ z) (append_assoc (replicate (length l) (Over Cons)) (Nothing ∷ leaves_back l) (Over (Leaf x) ∷ Nothing ∷ Nothing ∷ []))

one_more : {A : Type 0} (n : ℕ) (x : A) → replicate n x ++ x ∷ [] ≡ x ∷ replicate n x
one_more zero x = refl
one_more (suc n) x = ap (λ l. x ∷ l) (one_more n x)

pub names_back : (l : List ℕ) → backward (names l) ≡ map (λ x. Over (Name x)) l ++ Nothing ∷ replicate (length l) Nothing
unfolding backward
names_back [] = refl
names_back (x ∷ l) =
    ap (λ z. Over (Name x) ∷ (z ++ Nothing ∷ [])) (names_back l)
    ∙ (ap (λ z. Over (Name x) ∷ z) (append_assoc (map (λ y. Over (Name y)) l) (Nothing ∷ replicate (length l) Nothing) (Nothing ∷ [])) ∙ ap (λ z. Over (Name x) ∷ (map (λ y. Over (Name y)) l ++ Nothing ∷ z)) (one_more (length l) Nothing))

pub leaves_drop : (l : List ℕ) (n d : ℕ) → n < length l → leaves_back (drop n l) ≡ leaves_back (drop (n + 1) l) ++ Over (Leaf (get_or l n d)) ∷ Nothing ∷ Nothing ∷ []
leaves_drop [] n d h = absurd (omega arith)
leaves_drop (x ∷ l) zero d h = refl
leaves_drop (x ∷ l) (suc n) d h = let e : suc n + 1 ≡ suc (n + 1) = omega arith in rw e (leaves_drop l n d (omega arith))

pub push_assoc : (a b c d : List Make) → a ≡ b ++ c → a ++ d ≡ b ++ (c ++ d)
push_assoc a b c d e = ap (λ l. l ++ d) e ∙ append_assoc b c d

-- the steps of writing a list of indices

pub cells_more : (a b c : List Make) (n : ℕ) → b ≡ a ++ replicate n (Over Cons) → c ≡ b ++ Over Cons ∷ [] → c ≡ a ++ replicate (n + 1) (Over Cons)
cells_more a b c n e f = f ∙ (push_assoc b a (replicate n (Over Cons)) (Over Cons ∷ []) e ∙ ap (λ l. a ++ l) (replicate_more n (Over Cons)))

pub leaves_begin : (a b c : List Make) (l : List ℕ) (n k : ℕ) → n ≡ length l → k ≡ length l → b ≡ a ++ replicate n (Over Cons) → c ≡ b ++ Nothing ∷ [] → c ≡ a ++ (replicate (length l) (Over Cons) ++ Nothing ∷ leaves_back (drop k l))
leaves_begin a b c l n k g h e f =
    f ∙ (push_assoc b a (replicate n (Over Cons)) (Nothing ∷ []) e
    ∙ ap₂ (λ m t. a ++ (replicate m (Over Cons) ++ Nothing ∷ leaves_back t)) g (sym (ap (λ m. drop m l) h ∙ drop_all (length l) l (omega arith))))

pub leaves_more : (a b c : List Make) (l : List ℕ) (x k n d : ℕ) → n + 1 ≡ k → n < length l → x ≡ get_or l n d → b ≡ a ++ (replicate (length l) (Over Cons) ++ Nothing ∷ leaves_back (drop k l)) → c ≡ b ++ backward (lone (Leaf x)) → c ≡ a ++ (replicate (length l) (Over Cons) ++ Nothing ∷ leaves_back (drop n l))
unfolding backward
leaves_more a b c l x k n d i h g e f =
    f ∙ (push_assoc b a (replicate (length l) (Over Cons) ++ Nothing ∷ leaves_back (drop k l)) (Over (Leaf x) ∷ Nothing ∷ Nothing ∷ []) e
    ∙ ap (λ z. a ++ z) (append_assoc (replicate (length l) (Over Cons)) (Nothing ∷ leaves_back (drop k l)) (Over (Leaf x) ∷ Nothing ∷ Nothing ∷ [])
    ∙ ap (λ z. replicate (length l) (Over Cons) ++ Nothing ∷ z) (ap₂ (λ m y. leaves_back (drop m l) ++ Over (Leaf y) ∷ Nothing ∷ Nothing ∷ []) (sym i) g ∙ sym (leaves_drop l n d h))))

pub leaves_end : (a b : List Make) (l : List ℕ) (k : ℕ) → k ≤ 0 → b ≡ a ++ (replicate (length l) (Over Cons) ++ Nothing ∷ leaves_back (drop k l)) → b ≡ a ++ backward (chain (map (λ i. lone (Leaf i)) l))
leaves_end a b l zero h e = e ∙ ap (λ z. a ++ z) (sym (chain_back l))
leaves_end a b l (suc k) h e = absurd (omega arith)

-- a read at some indices
pub read_written : (a b c d : List Make) (x : ℕ) (l : List ℕ) → 0 < length l → b ≡ a ++ Over (Read x) ∷ [] → c ≡ b ++ Nothing ∷ [] → d ≡ c ++ backward (chain (map (λ i. lone (Leaf i)) l)) → d ≡ a ++ backward (read_at x l)
unfolding backward
read_written a b c d x [] h e f g = absurd (omega arith)
read_written a b c d x (i ∷ l) h e f g =
    g ∙ (ap (λ z. z ++ backward (chain (map (λ j. lone (Leaf j)) (i ∷ l)))) (f ∙ push_assoc b a (Over (Read x) ∷ []) (Nothing ∷ []) e)
    ∙ append_assoc a (Over (Read x) ∷ Nothing ∷ []) (backward (chain (map (λ j. lone (Leaf j)) (i ∷ l)))))

pub plain_written : (a b : List Make) (x : ℕ) (l : List ℕ) → length l ≡ 0 → b ≡ a ++ backward (lone (Leaf x)) → b ≡ a ++ backward (read_at x l)
plain_written a b x [] h e = e
plain_written a b x (i ∷ l) h e = absurd (omega arith)

pub leaf_written : (a b c d : List Make) (x : ℕ) → b ≡ a ++ Over (Leaf x) ∷ [] → c ≡ b ++ Nothing ∷ [] → d ≡ c ++ Nothing ∷ [] → d ≡ a ++ backward (lone (Leaf x))
unfolding backward
leaf_written a b c d x e f g = g ∙ push_assoc c a (Over (Leaf x) ∷ Nothing ∷ []) (Nothing ∷ []) (f ∙ push_assoc b a (Over (Leaf x) ∷ []) (Nothing ∷ []) e)

-- the steps of writing a list of names

pub names_more : (a b c : List Make) (l : List ℕ) (n x d : ℕ) → n < length l → x ≡ get_or l n d → b ≡ a ++ map (λ y. Over (Name y)) (take n l) → c ≡ b ++ Over (Name x) ∷ [] → c ≡ a ++ map (λ y. Over (Name y)) (take (n + 1) l)
names_more a b c l n x d h g e f =
    f ∙ (push_assoc b a (map (λ y. Over (Name y)) (take n l)) (Over (Name x) ∷ []) e
    ∙ ap (λ z. a ++ z) (ap (λ y. map (λ z. Over (Name z)) (take n l) ++ Over (Name y) ∷ []) g ∙ sym (map_more (λ y. Over (Name y)) l n d h)))

pub ends_end : (a b : List Make) (l : List ℕ) (n : ℕ) → n ≡ length l → b ≡ a ++ (map (λ y. Over (Name y)) l ++ Nothing ∷ replicate n Nothing) → b ≡ a ++ backward (names l)
ends_end a b l n h e = e ∙ ap (λ z. a ++ z) (ap (λ k. map (λ y. Over (Name y)) l ++ Nothing ∷ replicate k Nothing) h ∙ sym (names_back l))

pub ruleset writes = (cells_more, leaves_begin, leaf_written, read_written, plain_written)
