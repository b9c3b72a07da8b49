-- All of a list, and each two of a list.
use Rattle.std.proofs.Common.{List, [], ◌∷◌, ◌++◌, map}
use Rattle.std.specs.List.{AllByRecursion}
use Rattle.cv_scope_rules.specs.Branches.{Each, Pairs}
use Rattle.cv_syntax_trees.proofs.lists.Each.{AllByRecursion_append}

pub all_weaker : {A : Type 0} (P Q : A → Type 0) (xs : List A) → ((x : A) → P x → Q x) → AllByRecursion P xs → AllByRecursion Q xs
all_weaker P Q [] f a = tt
all_weaker P Q (x ∷ xs) f a = (f x a.0, all_weaker P Q xs f a.1)

pub all_true : {A : Type 0} (P : A → Type 0) (xs : List A) → ((x : A) → P x) → AllByRecursion P xs
all_true P [] f = tt
all_true P (x ∷ xs) f = (f x, all_true P xs f)

pub all_both : {A : Type 0} (P Q R : A → Type 0) (xs : List A) → ((x : A) → P x → Q x → R x) → AllByRecursion P xs → AllByRecursion Q xs → AllByRecursion R xs
all_both P Q R [] f a b = tt
all_both P Q R (x ∷ xs) f a b = (f x a.0 b.0, all_both P Q R xs f a.1 b.1)

pub all_map : {A B : Type 0} (P : B → Type 0) (f : A → B) (xs : List A) → ((x : A) → P (f x)) → AllByRecursion P (map f xs)
all_map P f [] h = tt
all_map P f (x ∷ xs) h = (h x, all_map P f xs h)

pub pairs_append : {A : Type 0} (R : A → A → Type 0) (xs ys : List A) → Pairs R xs → Pairs R ys → Each R xs ys → Pairs R (xs ++ ys)
pairs_append R [] ys a b c = b
pairs_append R (x ∷ xs) ys a b c = (AllByRecursion_append (R x) xs ys a.0 c.0, pairs_append R xs ys a.1 b c.1)

pub pairs_weaker : {A : Type 0} (R S : A → A → Type 0) (xs : List A) → ((x y : A) → R x y → S x y) → Pairs R xs → Pairs S xs
pairs_weaker R S [] f a = tt
pairs_weaker R S (x ∷ xs) f a = (all_weaker (R x) (S x) xs (f x) a.0, pairs_weaker R S xs f a.1)

-- where each element has a property
pub pairs_of : {A : Type 0} (P : A → Type 0) (R S : A → A → Type 0) (xs : List A) → ((x y : A) → P x → P y → R x y → S x y) → AllByRecursion P xs → Pairs R xs → Pairs S xs
pairs_of P R S [] f p a = tt
pairs_of P R S (x ∷ xs) f p a = (all_both P (R x) (S x) xs (λ y q r. f x y p.0 q r) p.1 a.0, pairs_of P R S xs f p.1 a.1)

pub each_weaker : {A : Type 0} (R S : A → A → Type 0) (xs ys : List A) → ((x y : A) → R x y → S x y) → Each R xs ys → Each S xs ys
each_weaker R S xs ys f c = all_weaker (λ x. AllByRecursion (R x) ys) (λ x. AllByRecursion (S x) ys) xs (λ x. all_weaker (R x) (S x) ys (f x)) c

pub each_of : {A : Type 0} (P : A → Type 0) (R S : A → A → Type 0) (xs ys : List A) → ((x y : A) → P x → R x y → S x y) → AllByRecursion P xs → Each R xs ys → Each S xs ys
each_of P R S xs ys f p c = all_both P (λ x. AllByRecursion (R x) ys) (λ x. AllByRecursion (S x) ys) xs (λ x q. all_weaker (R x) (S x) ys (λ y. f x y q)) p c

pub each_append : {A : Type 0} (R : A → A → Type 0) (xs ys zs : List A) → Each R xs ys → Each R xs zs → Each R xs (ys ++ zs)
each_append R xs ys zs c d = all_both (λ x. AllByRecursion (R x) ys) (λ x. AllByRecursion (R x) zs) (λ x. AllByRecursion (R x) (ys ++ zs)) xs (λ x. AllByRecursion_append (R x) ys zs) c d
