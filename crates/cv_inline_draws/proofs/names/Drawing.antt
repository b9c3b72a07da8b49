-- Names that are drawn one by one.
use Rattle.std.proofs.Common.{◌≡◌, ℕ, suc, ◌+◌, ◌*◌, ◌^◌, ◌<◌, ◌≤◌, List, [], ◌∷◌, ◌++◌, All, length, take, drop, get_or, ap, ap₂, sym, ◌∙◌, arith}
use Rattle.std.proofs.lemmas.List.{append_assoc, drop_more, length-map, map_push, take-take}
use Rattle.std.proofs.lemmas.List.Elements.{All-get_or, All-push}
use Rattle.cv_inline.specs.Draws.{is_among, least_free, numbered_text, texts_from}
use Rattle.cv_inline_draws.specs.names.Texts.{text_at, texts_at, with_text, with_texts}
use Rattle.cv_inline_draws.proofs.names.Texts.{text_at_kept, texts_at_kept, with_texts_push}

-- what is there after some draws: the names of those that are drawn, of a table that begins as the old one; and the
-- texts of all that are drawn, where the next number is this
pub record HasDrawn (old : List (List ℕ)) (taken bases : List ℕ) (all : List (List ℕ)) (names : List (List ℕ)) (drawn : List ℕ) (number i : ℕ) : Type 0 where
  pub live : All (λ x. x < length names) drawn
  pub table : names ≡ with_texts old (texts_at names drawn)
  pub kept : take (length old) names ≡ old
  pub more : length old ≤ length names
  pub few : length names ≤ length old + i
  pub near : number ≤ 2 ^ 40 + i * (length taken + 1)
  pub texts : texts_at names drawn ++ texts_from (texts_at old taken) number (texts_at old (drop i bases)) ≡ all

kept_on : (old names new : List (List ℕ)) → take (length old) names ≡ old → length old ≤ length names → take (length names) new ≡ names → take (length old) new ≡ old
kept_on old names new e small f = sym (take-take (length old) (length names) new small) ∙ (ap (take (length old)) f ∙ e)

-- one more name
pub one_more : (old : List (List ℕ)) (taken bases : List ℕ) (all names new : List (List ℕ)) (drawn : List ℕ) (number i m x : ℕ) → HasDrawn old taken bases all names drawn number i →
    i < length bases → All (λ y. y < length old) bases → All (λ y. y < length old) taken →
    m ≡ least_free (λ k. is_among (texts_at names taken) (numbered_text (text_at names (get_or bases i 0)) k)) (length taken) number → m ≤ number + length taken →
    new ≡ with_text names (numbered_text (text_at names (get_or bases i 0)) m) → text_at new x ≡ numbered_text (text_at names (get_or bases i 0)) m → x < length new → take (length names) new ≡ names → length new ≤ length names + 1 → length names ≤ length new →
    HasDrawn old taken bases all new (drawn ++ x ∷ []) (m + 1) (i + 1)
one_more old taken bases all names new drawn number i m x k small bs ts least near added text live kept few more =
    let base = get_or bases i 0 in
    let base_live : base < length old = All-get_or (λ y. y < length old) bases i 0 small bs in
    let same_base : text_at names base ≡ text_at old base = text_at_kept old names base k.kept base_live in
    let same_taken : texts_at names taken ≡ texts_at old taken = texts_at_kept old names taken k.kept ts in
    let m_is : m ≡ least_free (λ n. is_among (texts_at old taken) (numbered_text (text_at old base) n)) (length (texts_at old taken)) number =
    least ∙ (ap₂ (λ us u. least_free (λ n. is_among us (numbered_text u n)) (length taken) number) same_taken same_base
    ∙ ap (λ t. least_free (λ n. is_among (texts_at old taken) (numbered_text (text_at old base) n)) t number) (sym (length-map taken (text_at old)))) in
    let front : texts_at new (drawn ++ x ∷ []) ≡ texts_at names drawn ++ numbered_text (text_at old base) m ∷ [] =
    map_push (text_at new) drawn x ∙ ap₂ (λ us u. us ++ u ∷ []) (texts_at_kept names new drawn kept k.live) (text ∙ ap (λ u. numbered_text u m) same_base) in
    let back : texts_from (texts_at old taken) number (texts_at old (drop i bases)) ≡ numbered_text (text_at old base) m ∷ texts_from (texts_at old taken) (m + 1) (texts_at old (drop (i + 1) bases)) =
    ap (λ xs. texts_from (texts_at old taken) number (texts_at old xs)) (drop_more bases i 0 small)
    ∙ ap₂ (λ a b. numbered_text (text_at old base) a ∷ texts_from (texts_at old taken) b (texts_at old (drop (i + 1) bases))) (sym m_is) (ap suc (sym m_is) ∙ next m) in
    record {
      live = All-push (λ y. y < length new) drawn x (λ j d h. wider (get_or drawn j d) (k.live j d h)) live;
      table = added ∙ (ap₂ (λ ns u. with_text ns (numbered_text u m)) k.table same_base ∙ (sym (with_texts_push old (texts_at names drawn) (numbered_text (text_at old base) m)) ∙ ap (with_texts old) (sym front)));
      kept = kept_on old names new k.kept k.more kept;
      more = let a = k.more in omega arith;
      few = let a = k.few in omega arith;
      near = let a = k.near in let e : (i + 1) * (length taken + 1) ≡ i * (length taken + 1) + (length taken + 1) = suc_mul i (length taken + 1) in omega arith;
      texts = ap (λ us. us ++ texts_from (texts_at old taken) (m + 1) (texts_at old (drop (i + 1) bases))) front
          ∙ (append_assoc (texts_at names drawn) (numbered_text (text_at old base) m ∷ []) (texts_from (texts_at old taken) (m + 1) (texts_at old (drop (i + 1) bases)))
          ∙ (ap (λ us. texts_at names drawn ++ us) (sym back) ∙ k.texts));
    } where
      wider : (y : ℕ) → y < length names → y < length new
      wider y h = omega arith

      next : (n : ℕ) → suc n ≡ n + 1
      next n = omega arith

      suc_mul : (a b : ℕ) → (a + 1) * b ≡ a * b + b
      suc_mul a b = grind arith
