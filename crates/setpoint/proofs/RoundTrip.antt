-- The codec loses nothing: what was written reads back, bit for bit, minus zero and subnormals too; five bytes that read as a setpoint are the
-- bytes of that setpoint; everything else reads as none. The last section has the four theorems.
use Rattle.std.specs.Prelude.{◌≡◌, refl, ℕ, ◌+◌, ◌*◌, ◌/◌, ◌%◌, ◌<◌, List, [], ◌∷◌, Bool, true, false, eqb, Option, Some, None, Ok, Err, if◌then◌else◌}
use Rattle.std.proofs.Common.{sym, ap, ◌∙◌, subst, arith, eqb-true}
use Rattle.std.specs.Float.{binary32}
use Rattle.std.specs.Float.Ieee.{of_bits}
use Rattle.std.specs.Float.Ieee.Bits.{of_bits-fits}
use Rattle.setpoint.specs.Codec.{has_body, kind_of, word_of, bytes_of, body_of, encode_of, finite_bits, setting_of, join_of, decode_of}
use Rattle.setpoint.specs.Float32.{finite_bits_lem, value_back, pattern_back, bits_finite}
use Rattle.setpoint.specs.declared.Setpoint.{Setpoint}
use Rattle.setpoint.specs.declared.Setpoint.TheVariants.{Pressure, Speed, Valve}
use Rattle.setpoint.specs.RoundTrip.{Held, Means, Sound, whole_in, Bytes}

-- ---- what was written reads back

pub join_low : (w : ℕ) → join_of (w % 256) (w / 256 % 256) (w / 65536 % 256) (w / 16777216) ≡ w
unfolding join_of
join_low w = omega arith

pub setting_back : (s : Setpoint) → Held s → has_body s ≡ true → setting_of (kind_of s) (word_of s) ≡ Some s
unfolding setting_of
setting_back (Pressure x) h e = rw (bits_finite x h e, value_back x h)
setting_back (Speed n) h e = refl
setting_back (Valve true) h e = refl
setting_back (Valve false) h e = refl

pub read_back : (s : Setpoint) → Held s → has_body s ≡ true → decode_of (body_of s) ≡ Some s
unfolding decode_of body_of bytes_of
read_back s h e = rw (join_low (word_of s)) (setting_back s h e)

-- ---- what reads as a setpoint was written

-- four bytes joined are those four bytes, written again
pub low_join : (k a b c d : ℕ) → a < 256 → b < 256 → c < 256 → bytes_of k (join_of a b c d) ≡ k ∷ a ∷ b ∷ c ∷ d ∷ []
unfolding bytes_of join_of
low_join k a b c d ha hb hc =
    let w = a + b * 256 + c * 65536 + d * 16777216 in
    let e0 : w % 256 ≡ a = omega arith in
    let d1 : w / 256 ≡ b + c * 256 + d * 65536 = omega arith in
    let d2 : w / 65536 ≡ c + d * 256 = omega arith in
    let e3 : w / 16777216 ≡ d = omega arith in
    let e1 : (b + c * 256 + d * 65536) % 256 ≡ b = omega arith in
    let e2 : (c + d * 256) % 256 ≡ c = omega arith in
    rw (e0, d1, e1, d2, e2, e3)

pub join_small : (a b c d : ℕ) → a < 256 → b < 256 → c < 256 → d < 256 → join_of a b c d < 4294967296
unfolding join_of
join_small a b c d ha hb hc hd = omega arith

-- a kind and a word have five outcomes
setting_cases : (P : Option Setpoint → Type 0) (k w : ℕ) → (k ≡ 1 → finite_bits w ≡ true → P (Some (Pressure (of_bits binary32 w))))
    → (k ≡ 2 → P (Some (Speed w))) → (k ≡ 3 → w ≡ 0 → P (Some (Valve false))) → (k ≡ 3 → w ≡ 1 → P (Some (Valve true))) → P None
    → P (setting_of k w)
unfolding setting_of
setting_cases P k w pressure speed shut wide none =
    go (eqb k 1) (eqb k 2) (eqb k 3) (finite_bits w) (eqb w 0) (eqb w 1) (eqb-true k 1) (eqb-true k 2) (eqb-true k 3) (λ e. e) (eqb-true w 0) (eqb-true w 1)
  where
    go : (p q r f z o : Bool) → (p ≡ true → k ≡ 1) → (q ≡ true → k ≡ 2) → (r ≡ true → k ≡ 3) → (f ≡ true → finite_bits w ≡ true) → (z ≡ true → w ≡ 0) → (o ≡ true → w ≡ 1)
        → P (
        if p then (if f then Some (Pressure (of_bits binary32 w)) else None)
        else if q then Some (Speed w)
        else if r then (if z then Some (Valve false) else if o then Some (Valve true) else None)
        else None)
    go true q r true z o p1 q2 r3 f1 z0 o1 = pressure (p1 refl) (f1 refl)
    go true q r false z o p1 q2 r3 f1 z0 o1 = none
    go false true r f z o p1 q2 r3 f1 z0 o1 = speed (q2 refl)
    go false false true f true o p1 q2 r3 f1 z0 o1 = shut (r3 refl) (z0 refl)
    go false false true f false true p1 q2 r3 f1 z0 o1 = wide (r3 refl) (o1 refl)
    go false false true f false false p1 q2 r3 f1 z0 o1 = none
    go false false false f z o p1 q2 r3 f1 z0 o1 = none

pub setting_means : (k w : ℕ) (s : Setpoint) → w < 4294967296 → setting_of k w ≡ Some s → Means s k w
setting_means k w s l e =
    subst (λ (o : Option Setpoint). Sound o k w) e
    (setting_cases (λ (o : Option Setpoint). Sound o k w) k w
    (λ p f. record { held = of_bits-fits binary32 w; whole = finite_bits_lem w ∙ f; kind = sym p; word = pattern_back w l f })
    (λ p. record { held = l; whole = refl; kind = sym p; word = refl })
    (λ p z. record { held = tt; whole = refl; kind = sym p; word = sym z })
    (λ p z. record { held = tt; whole = refl; kind = sym p; word = sym z })
    tt)

pub setting_whole : (d : Option Setpoint) (k w : ℕ) → d ≡ setting_of k w → whole_in d ≡ true
setting_whole d k w e =
    ap whole_in e
    ∙ setting_cases (λ (o : Option Setpoint). whole_in o ≡ true) k w (λ p f. finite_bits_lem w ∙ f) (λ p. refl) (λ p z. refl) (λ p z. refl) refl

bytes_mean : (k a b c d : ℕ) (s : Setpoint) → Bytes a b c d → decode_of (k ∷ a ∷ b ∷ c ∷ d ∷ []) ≡ Some s → Means s k (join_of a b c d)
unfolding decode_of
bytes_mean k a b c d s h e = setting_means k (join_of a b c d) s (join_small a b c d h.0 h.1 h.2 h.3) e

-- ---- the theorems

-- encode, then decode
pub round_trip : (s : Setpoint) (old : List ℕ) → Held s → has_body s ≡ true → decode_of (encode_of s old).1 ≡ Some s
unfolding encode_of
round_trip s old h e = rw e (read_back s h e)

-- five bytes that read as a setpoint are what encoding it writes
pub decoded_is_encoded : (k a b c d : ℕ) (s : Setpoint) (old : List ℕ) → Bytes a b c d → decode_of (k ∷ a ∷ b ∷ c ∷ d ∷ []) ≡ Some s
    → encode_of s old ≡ (Ok tt, k ∷ a ∷ b ∷ c ∷ d ∷ [])
unfolding encode_of body_of
decoded_is_encoded k a b c d s old h e =
    let m = bytes_mean k a b c d s h e in
    rw (m.whole, m.kind, m.word, low_join k a b c d h.0 h.1 h.2)

-- so five bytes that no setpoint encodes to read as none
pub nothing_else : (k a b c d : ℕ) → Bytes a b c d → ((s : Setpoint) → Held s → has_body s ≡ true → body_of s ≡ k ∷ a ∷ b ∷ c ∷ d ∷ [] → ⊥)
    → decode_of (k ∷ a ∷ b ∷ c ∷ d ∷ []) ≡ None
unfolding body_of
nothing_else k a b c d h none = go (decode_of (k ∷ a ∷ b ∷ c ∷ d ∷ [])) refl
  where
    go : (o : Option Setpoint) → decode_of (k ∷ a ∷ b ∷ c ∷ d ∷ []) ≡ o → o ≡ None
    go (Some s) e =
        let m = bytes_mean k a b c d s h e in
        absurd (none s m.held m.whole (rw (m.kind, m.word) (low_join k a b c d h.0 h.1 h.2)))
    go None e = refl

-- a pressure that is not finite has no encoding, and leaves what was there
pub not_finite_lem : (s : Setpoint) (old : List ℕ) → has_body s ≡ false → encode_of s old ≡ (Err (record {}), old)
unfolding encode_of
not_finite_lem s old e = rw e
