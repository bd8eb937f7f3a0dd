-- Private to this crate: the element that a network has, its own or another's.
use Rattle.sync_element.specs.ElementState.{ElementState}
use Rattle.sync_net.specs.declared.shared_element.KeptElement.{KeptElement}
use Rattle.sync_net.specs.declared.shared_element.KeptElement.TheVariants as element

abbrev pub element_in : KeptElement → ElementState
element_in (element.Own own) = own.value
element_in (element.Shared other) = other.now
