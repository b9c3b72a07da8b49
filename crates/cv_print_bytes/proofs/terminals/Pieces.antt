-- The signs and the uses of names in pieces of a text, one behind another.
use Rattle.std.proofs.Common.{◌≡◌, ℕ, suc, ◌+◌, List, [], ◌∷◌, ◌++◌, length, refl, ap, ◌∙◌, arith}
use Rattle.std.proofs.lemmas.List.{length-append}
use Rattle.cv_parse_notation.specs.declared.sign.Sign.{Sign}
use Rattle.cv_parse_notation.specs.declared.sign.Sign.TheVariants as token
use Rattle.cv_print_bytes.specs.terminals.Signs.{numbered}
use Rattle.cv_print_bytes.specs.terminals.Told.{Piece, Shown, Told, signs_in, uses_in}

pub signs_append : (ps qs : List Piece) → signs_in (ps ++ qs) ≡ signs_in ps ++ signs_in qs
unfolding signs_in
signs_append [] qs = refl
signs_append (Shown s ∷ ps) qs = ap (λ l. s ∷ l) (signs_append ps qs)
signs_append (Told r x ∷ ps) qs = signs_append ps qs

-- how many words `find` stand behind signs, where so many stand before
abbrev pub finds_behind : ℕ → List Sign → ℕ
finds_behind k [] = k
finds_behind k (token.Find j ∷ l) = finds_behind (suc k) l
finds_behind k (s ∷ l) = finds_behind k l

pub numbered_append : (k : ℕ) (l m : List Sign) → numbered k (l ++ m) ≡ numbered k l ++ numbered (finds_behind k l) m
unfolding numbered
numbered_append k [] m = refl
numbered_append k (token.Find j ∷ l) m = ap (λ z. token.Find (suc k) ∷ z) (numbered_append (suc k) l m)
numbered_append k (s ∷ l) m = ap (λ z. s ∷ z) (numbered_append k l m)

pub numbered_length : (k : ℕ) (l : List Sign) → length (numbered k l) ≡ length l
unfolding numbered
numbered_length k [] = refl
numbered_length k (token.Find j ∷ l) = ap suc (numbered_length (suc k) l)
numbered_length k (s ∷ l) = ap suc (numbered_length k l)

pub uses_append : (ps qs : List Piece) (k : ℕ) → uses_in (ps ++ qs) k ≡ uses_in ps (length (signs_in qs) + k) ++ uses_in qs k
unfolding signs_in uses_in
uses_append [] qs k = refl
uses_append (Shown s ∷ ps) qs k = uses_append ps qs k
uses_append (Told r x ∷ ps) qs k =
    let e : length (signs_in (ps ++ qs)) + k ≡ length (signs_in ps) + (length (signs_in qs) + k) = let a = signs_append ps qs in let b = length-append (signs_in ps) (signs_in qs) in omega (arith, ap length a, b) in
    ap (λ n. record { role = r; name = x; left = n } ∷ uses_in (ps ++ qs) k) e ∙ ap (λ z. record { role = r; name = x; left = length (signs_in ps) + (length (signs_in qs) + k) } ∷ z) (uses_append ps qs k)
