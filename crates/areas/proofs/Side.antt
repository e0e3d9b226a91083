-- The two sums stand for `cross` of 002: (b.x − a.x) · (p.y − a.y) − (b.y − a.y) · (p.x − a.x).
use mathlib.Core.Path.{◌≡◌, ap}
use Prim.Native.Nat.{ℕ, ◌+◌, ◌*◌}
use native.Mathlib.Omega.{arith}
use Rattle.position.specs.declared.PixelPosition.{PixelPosition}
use Rattle.areas.specs.Segments.{cross_plus, cross_minus}

-- (b − a) · (d − c) = (x − m) · (y − n), where b − a = x − m and d − c = y − n
product : (a b c d x m y n : ℕ) → b + m ≡ a + x → d + n ≡ c + y → b * d + a * c + (x * n + m * y) ≡ a * d + b * c + (x * y + m * n)
product a b c d x m y n h k = omega (arith, ap (λ v. v * d) h, ap (λ v. v * c) h, ap (λ v. v * x) k, ap (λ v. v * m) k)

-- where b.x − a.x = dx − mx, b.y − a.y = dy − my, p.x − a.x = ex − nx and p.y − a.y = ey − ny
pub cross-is : (a b p : PixelPosition) (dx mx dy my ex nx ey ny : ℕ) → b.x + mx ≡ a.x + dx → b.y + my ≡ a.y + dy → p.x + nx ≡ a.x + ex
    → p.y + ny ≡ a.y + ey →
    cross_plus a b p + ((dx * ny + mx * ey) + (dy * ex + my * nx)) ≡ cross_minus a b p + ((dx * ey + mx * ny) + (dy * nx + my * ex))
cross-is a b p dx mx dy my ex nx ey ny hx hy kx ky =
    omega (arith, product a.x b.x a.y p.y dx mx ey ny hx ky, product a.y b.y a.x p.x dy my ex nx hy kx)
