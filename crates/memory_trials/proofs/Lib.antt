mod FewNumbers
mod ManyNumbers
mod StartsSeen
mod ThreeNumbers
