-- The pairs of the page docs/SWAPS.md, one by one: each is the general law about any steps.
use Rattle.std.specs.Prelude.{ℕ, ◌≤◌, ◌<◌, ◌≡◌, ◌≢◌, ◌⊎◌}
use Rattle.std.proofs.Common.{sym, ◌∙◌, inl, inr, arith}
use Rattle.swaps.specs.Steps.{Step, step_words, OnBit, Parted}
use Rattle.swaps.specs.Statements.{Swap, DifferentPlaces, OtherKinds, TwoReleases, TakeRelease, ReleaseTake, TakeWaiters, WaitersTake, ReleaseWaiters, WaitersRelease, TwoWaiters, TakeHealth, HealthTake, ReleaseHealth, HealthRelease, WaitersHealth, HealthWaiters, TwoHealths}
use Rattle.swaps.proofs.Acts.{any_steps_swap}

-- legal in the first order: then in the other too
either_way : (s t : Step) → Parted s t → Swap s t
either_way s t p ps w g l =
    let x = any_steps_swap ps w s t g p in
    record {
      legal = record { first_legal = sym x.second_drop ∙ l.second_legal; second_legal = x.first_drop ∙ l.first_legal };
      state = x.state;
    }

-- kinds that write different words
by_kind : (k p n l q m : ℕ) → ((k ≡ 1) ⊎ (k ≡ 2) → (l ≡ 1) ⊎ (l ≡ 2) → ⊥) → k ≢ l → Swap (step_words k p n) (step_words l q m)
by_kind k p n l q m x y =
    either_way (step_words k p n) (step_words l q m)
    (record {
      one_take = λ a b. x (inl a) (inl b);
      on_bits = λ a b. absurd (x a b);
      on_waiters = λ a b. absurd (y (a ∙ sym b));
      on_health = λ a b. absurd (y (a ∙ sym b));
    })

-- different places
pub places_part : DifferentPlaces
places_part s t x y = record { one_take = x; on_bits = λ a b. y; on_waiters = λ a b. y; on_health = λ a b. y }

-- a kind that writes nothing
pub kinds_part : OtherKinds
kinds_part s t x =
    record {
      one_take = λ a b. beyond x (omega arith) (omega arith);
      on_bits = λ a b. absurd (on_bit a);
      on_waiters = λ a b. absurd (beyond x (omega arith) (omega arith));
      on_health = λ a b. absurd (beyond x (omega arith) (omega arith));
    }
  where
    beyond : (s.kind ≡ 0) ⊎ (5 ≤ s.kind) → 1 ≤ s.kind → s.kind ≤ 4 → ⊥
    beyond (inl e) l k = omega arith
    beyond (inr e) l k = omega arith

    on_bit : OnBit s → ⊥
    on_bit (inl e) = beyond x (omega arith) (omega arith)
    on_bit (inr e) = beyond x (omega arith) (omega arith)

by_place : (k p n l q m : ℕ) → (k ≡ 1 → l ≡ 1 → ⊥) → p ≢ q → Swap (step_words k p n) (step_words l q m)
by_place k p n l q m x y = either_way (step_words k p n) (step_words l q m) (places_part (step_words k p n) (step_words l q m) x y)

-- a kind that takes or releases is 1 or 2
small : (k : ℕ) → (k ≡ 1) ⊎ (k ≡ 2) → k < 3
small k (inl e) = omega arith
small k (inr e) = omega arith

pub releases_swap : TwoReleases
releases_swap c s d r x = by_place 2 c s 2 d r (λ a b. omega arith) x

pub take_release_swap : TakeRelease
take_release_swap c n d s x = by_place 1 c n 2 d s (λ a b. omega arith) x

pub release_take_swap : ReleaseTake
release_take_swap c s d n x = by_place 2 c s 1 d n (λ a b. omega arith) x

pub take_waiters_swap : TakeWaiters
take_waiters_swap c n d m = by_kind 1 c n 3 d m (λ a b. omega (arith, small 3 b)) (λ e. omega arith)

pub waiters_take_swap : WaitersTake
waiters_take_swap c n d m = by_kind 3 c n 1 d m (λ a b. omega (arith, small 3 a)) (λ e. omega arith)

pub release_waiters_swap : ReleaseWaiters
release_waiters_swap c s d n = by_kind 2 c s 3 d n (λ a b. omega (arith, small 3 b)) (λ e. omega arith)

pub waiters_release_swap : WaitersRelease
waiters_release_swap c n d s = by_kind 3 c n 2 d s (λ a b. omega (arith, small 3 a)) (λ e. omega arith)

pub waiters_swap : TwoWaiters
waiters_swap c n d m x = by_place 3 c n 3 d m (λ a b. omega arith) x

pub take_health_swap : TakeHealth
take_health_swap c n i m = by_kind 1 c n 4 i m (λ a b. omega (arith, small 4 b)) (λ e. omega arith)

pub health_take_swap : HealthTake
health_take_swap i n c m = by_kind 4 i n 1 c m (λ a b. omega (arith, small 4 a)) (λ e. omega arith)

pub release_health_swap : ReleaseHealth
release_health_swap c s i n = by_kind 2 c s 4 i n (λ a b. omega (arith, small 4 b)) (λ e. omega arith)

pub health_release_swap : HealthRelease
health_release_swap i n c s = by_kind 4 i n 2 c s (λ a b. omega (arith, small 4 a)) (λ e. omega arith)

pub waiters_health_swap : WaitersHealth
waiters_health_swap c n i m = by_kind 3 c n 4 i m (λ a b. omega (arith, small 4 b)) (λ e. omega arith)

pub health_waiters_swap : HealthWaiters
health_waiters_swap i n c m = by_kind 4 i n 3 c m (λ a b. omega (arith, small 4 a)) (λ e. omega arith)

pub healths_swap : TwoHealths
healths_swap i n j m x = by_place 4 i n 4 j m (λ a b. omega arith) x
